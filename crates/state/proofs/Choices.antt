-- Two rules in any state, of a run or not: a low request is chosen only while no high one waits; and a token from a
-- stranger begins no hold the first time. Assumes nothing.
use Prim.Native.Nat.{ℕ, ◌<◌}
use mathlib.Core.Bool.{Bool, true, false, true≢false}
use mathlib.Core.Path.{◌≡◌, refl, sym, ◌∙◌}
use mathlib.Core.List.{List, [], ◌∷◌}
use native.Mathlib.Omega.{arith}
use Rattle.choice.proofs.Rules.{true_same, true-less, false-less}
use Rattle.frame.specs.declared.Address.{Address}
use Rattle.frame.specs.declared.Part.{Part}
use Rattle.frame.specs.declared.Fields.TheVariants.{Token}
use Rattle.frame.specs.Reading.{Read}
use Rattle.frame.specs.Reading.{read}
use Rattle.state.specs.declared.Phase.{Phase}
use Rattle.state.specs.declared.Phase.TheVariants.{Idle, Awaited, Sdn, Check, ToSelf}
use Rattle.state.specs.declared.Priority.TheVariants.{High, Low}
use Rattle.state.specs.declared.Core.{Core}
use Rattle.state.specs.declared.Choice.{Choice}
use Rattle.state.specs.declared.Choice.TheVariants.{Serve, PassOn}
use Rattle.state.specs.World.{Site, World, Event, Done, Called, accepted, begins, ends, sends, confirmed}
use Rattle.state.specs.World.{collected, indicated, resets, refused, still, done, and_then, with_doing, with_core}
use Rattle.state.specs.World.{with_site}
use Rattle.state.specs.Request.{close_of, close, judged}
use Rattle.state.specs.Hold.{choice, rest, token, over, given_up, concluded}
use Rattle.state.specs.Calls as Calls
use Rattle.state.specs.Calls.{called, refuse, nothing, idle, idle_read, awaited_read, heard}
use Rattle.state.specs.Runs.{call}
use Rattle.state.specs.Runs.Call.{frame}
use Rattle.state.proofs.Cases.{by}

-- ---- what the choice saw: a request of the queue that it serves, for a low one no high one, and at a hold's start it
-- passes no high one over
unfoldable pub Saw : Bool → Core → Choice → Type 0
Saw starts c (Serve High) = 0 < c.high.unconfirmed
Saw starts c (Serve Low) = (0 < c.low.unconfirmed) × (c.high.unconfirmed ≡ 0)
Saw starts c PassOn = starts ≡ true → c.high.unconfirmed ≡ 0

pub saw : (starts : Bool) (c : Core) (clock : ℕ) → Saw starts c (choice starts c clock)
unfolding choice Saw
saw starts c clock =
    by (Saw starts c) _ _ _
    (λ e. by (Saw starts c) _ _ _ (λ i. true-less _ _ e)
    (λ i. by (Saw starts c) _ _ _ (λ j. true-less _ _ e) (λ j z. absurd (true≢false (sym z ∙ i)))))
    (λ e. let n = false-less _ _ e in by (Saw starts c) _ _ _
    (λ i. by (Saw starts c) _ _ _ (λ j. (true-less _ _ j, omega (arith, n))) (λ j z. omega (arith, n)))
    (λ i z. omega (arith, n)))

pub saw-high : (starts : Bool) (c : Core) (clock : ℕ) → choice starts c clock ≡ Serve High → 0 < c.high.unconfirmed
unfolding Saw
saw-high starts c clock e = rw e at (saw starts c clock)

pub saw-low : (starts : Bool) (c : Core) (clock : ℕ) → choice starts c clock ≡ Serve Low
    → (0 < c.low.unconfirmed) × (c.high.unconfirmed ≡ 0)
unfolding Saw
saw-low starts c clock e = rw e at (saw starts c clock)

pub saw-none : (c : Core) (clock : ℕ) → choice true c clock ≡ PassOn → c.high.unconfirmed ≡ 0
unfolding Saw
saw-none c clock e = (rw e at (saw true c clock)) refl

pub high-first : (starts : Bool) (c : Core) (clock : ℕ) → choice starts c clock ≡ Serve Low → c.high.unconfirmed ≡ 0
high-first starts c clock e = (saw-low starts c clock e).1

-- ---- "From another station it is ignored the first time"
-- a hold begins among the events
unfoldable pub opens : List Event → Bool
opens [] = false
opens (accepted p n ∷ l) = opens l
opens (begins ∷ l) = true
opens (ends ∷ l) = opens l
opens (sends x o t ∷ l) = opens l
opens (confirmed p n s k ∷ l) = opens l
opens (collected p n r ∷ l) = opens l
opens (indicated h d ∷ l) = opens l
opens (resets ∷ l) = opens l
opens (refused n ∷ l) = opens l

record Shut (d : Done) : Type 0 where
  shut : opens d.events ≡ false

record Stays (d : Called) : Type 0 where
  stays : opens d.events ≡ false

shut-still : (s : Site) → Shut (still s)
unfolding still opens
shut-still s = record { shut = refl }

stays-called : (d : Done) (w : World) → Shut d → Stays (called d w)
unfolding called
stays-called d w h = record { stays = h.shut }

stays-nothing : (w : World) → Stays (nothing w)
unfolding nothing opens
stays-nothing w = record { stays = refl }

stays-refuse : (n : ℕ) (w : World) → Stays (refuse n w)
unfolding refuse opens
stays-refuse n w = record { stays = refl }

shut-token : (clock d a : ℕ) (s : Site) → (a ≡ s.core.ps.0 → ⊥) → (a ≡ s.core.stranger.0 → ⊥)
    → Shut (token clock d a s)
unfolding token
shut-token clock d a s p q =
    by Shut _ _ _
    (λ e. by Shut _ _ _ (λ e. shut-still s)
    (λ n. by Shut _ _ _ (λ e. absurd (p (true_same _ _ e)))
    (λ e. by Shut _ _ _ (λ e. absurd (q (true_same _ _ e))) (λ e. shut-still _))))
    (λ e. shut-still s)

shut-given_up : (s : Site) → Shut (given_up s)
unfolding given_up and_then close close_of over done opens
shut-given_up s = record { shut = refl }

module _ (clock : ℕ) (room : Bool) (high low octets : List ℕ) (d a : Address) (p : Part)
    (e : read octets ≡ Read (Token d a) p) where
  stays-idle : (w : World) → (a.0 ≡ w.site.core.ps.0 → ⊥) → (a.0 ≡ w.site.core.stranger.0 → ⊥)
      → Stays (idle_read clock room high low (read octets) w)
  unfolding idle_read idle
  stays-idle w h k = rw e (stays-called _ w (shut-token clock _ _ w.site h k))

  shut-awaited : (s : Site) → Shut (awaited_read clock octets (read octets) s)
  unfolding awaited_read judged concluded
  shut-awaited s = rw e (shut-given_up s)

  stays-heard : (x : Phase) (w : World) → (a.0 ≡ w.site.core.ps.0 → ⊥) → (a.0 ≡ w.site.core.stranger.0 → ⊥)
      → Stays (heard x clock room high low octets w)
  unfolding heard with_site rest with_core with_doing
  stays-heard Idle w h k = stays-idle w h k
  stays-heard Awaited w h k = stays-called _ w (shut-awaited w.site)
  stays-heard Sdn w h k = stays-nothing w
  stays-heard Check w h k = stays-idle _ h k
  stays-heard ToSelf w h k = stays-nothing w

  stays-frame : (out : ℕ) (w : World) → (a.0 ≡ w.site.core.ps.0 → ⊥) → (a.0 ≡ w.site.core.stranger.0 → ⊥)
      → Stays (Calls.frame clock room high low octets out w)
  unfolding Calls.frame
  stays-frame out w h k = by Stays _ _ _ (λ i. stays-heard _ w h k) (λ i. stays-refuse _ w)

  -- a token of a station that is neither PS nor the stranger of a first token begins no hold, whatever the state
  pub first-token : (out : ℕ) (w : World) → (a.0 ≡ w.site.core.ps.0 → ⊥)
      → (a.0 ≡ w.site.core.stranger.0 → ⊥)
      → opens (call (frame clock room high low octets out) w).events ≡ false
  unfolding call
  first-token out w h k = (stays-frame out w h k).stays
