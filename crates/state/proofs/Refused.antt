-- A refused call leaves the world as it was: demand 1, of the calls of a run. Assumes nothing.
use Prim.Native.Nat.{ℕ}
use mathlib.Core.Bool.{Bool, true, false, true≢false}
use mathlib.Core.Path.{◌≡◌, refl, sym, ◌∙◌}
use mathlib.Core.List.{List, [], ◌∷◌}
use Rattle.laid.specs.Laid.{laid}
use Rattle.laid.proofs.Laws.{laid_nil}
use Rattle.frame.specs.Reading.{Answer as Reading}
use Rattle.state.specs.declared.Phase.{Phase}
use Rattle.std.specs.Prelude.{None}
use Rattle.state.specs.World.{Site, World, Event, Done, Called, accepted, begins, ends, sends, confirmed}
use Rattle.state.specs.World.{collected, indicated, resets, refused}
use Rattle.state.specs.Hold.{token}
use Rattle.state.specs.Answering as A
use Rattle.state.specs.Told.{telling, untold, adds}
use Rattle.state.specs.Calls.{refuse, awaited_read, sent_in, slot_in, resetting}
use Rattle.state.specs.Runs.{Call, call}
use Rattle.state.proofs.Cases.{Any, any}
use Rattle.state.proofs.Acts.{Point, Act, opens, serves, stops, quits, passes, repasses, repeats, closes}
use Rattle.state.proofs.Acts.{takes, hands, replies, shows, restarts, breaks, clears-high, clears-low, Trail}
use Rattle.state.proofs.Acts.{stop, move, act}
use Rattle.state.proofs.Walk.{Goes, goes-token, goes-awaited, goes-sent, goes-slot, trail-resetting, Carried}
use Rattle.state.proofs.Walk.{Course, declined, carried, course}

-- a refusal is among the events
unfoldable pub refuses : List Event → Bool
refuses [] = false
refuses (accepted p n ∷ l) = refuses l
refuses (begins ∷ l) = refuses l
refuses (ends ∷ l) = refuses l
refuses (sends x o t ∷ l) = refuses l
refuses (confirmed p n s k ∷ l) = refuses l
refuses (collected p n r ∷ l) = refuses l
refuses (indicated h d ∷ l) = refuses l
refuses (resets ∷ l) = refuses l
refuses (refused n ∷ l) = true

-- where no refusal is among the events, the caller is told 0
pub unrefused : (l : List Event) → refuses l ≡ false → (telling l).refused ≡ 0
unfolding refuses telling untold adds
unrefused [] e = refl
unrefused (accepted p n ∷ a) e = unrefused a e
unrefused (begins ∷ a) e = unrefused a e
unrefused (ends ∷ a) e = unrefused a e
unrefused (sends x o t ∷ a) e = unrefused a e
unrefused (confirmed p n s k ∷ a) e = unrefused a e
unrefused (collected p n r ∷ a) e = unrefused a e
unrefused (indicated h d ∷ a) e = unrefused a e
unrefused (resets ∷ a) e = unrefused a e
unrefused (refused n ∷ a) e = absurd (true≢false e)

-- ---- no act refuses
tame-act : {k : Type 0} {p : Point} {s : Site} {q : Point} {t : Site} {e : Event} → Act k p s e q t → (l : List Event)
    → refuses l ≡ false → refuses (e ∷ l) ≡ false
unfolding refuses A.replies
tame-act (opens clock s) l i = i
tame-act (serves starts clock y s e) l i = i
tame-act (stops starts clock s e) l i = i
tame-act (quits s) l i = i
tame-act (passes s) l i = i
tame-act (repasses s e h) l i = i
tame-act (repeats y s j e h) l i = i
tame-act (closes y p o x s j e c) l i = i
tame-act (takes y r x s a e) l i = i
tame-act (hands y s h) l i = i
tame-act (replies o s) l i = i
tame-act (shows z h d s) l i = i
tame-act (restarts s) l i = i
tame-act (breaks s h) l i = i
tame-act (clears-high a b s h) l i = i
tame-act (clears-low a b s h) l i = i

tame : {k : Type 0} {p q : Point} {s t : Site} {l : List Event} → Trail k p s l q t → refuses l ≡ false
unfolding refuses
tame stop = refl
tame (move m r) = tame r
tame (act {l = l} a r) = tame-act a l (tame r)

-- ---- and no act on the site indicates
silent-act : {p : Point} {s : Site} {q : Point} {t : Site} {e : Event} → Act ⊥ p s e q t → (l : List Event)
    → (telling l).indication ≡ None → (telling (e ∷ l)).indication ≡ None
unfolding telling untold adds A.replies
silent-act (opens clock s) l i = i
silent-act (serves starts clock y s e) l i = i
silent-act (stops starts clock s e) l i = i
silent-act (quits s) l i = i
silent-act (passes s) l i = i
silent-act (repasses s e h) l i = i
silent-act (repeats y s j e h) l i = i
silent-act (closes y p o x s j e c) l i = i
silent-act (takes y r x s a e) l i = i
silent-act (hands y s h) l i = i
silent-act (replies o s) l i = i
silent-act (shows z h d s) l i = absurd z
silent-act (restarts s) l i = i
silent-act (breaks s h) l i = i
silent-act (clears-high a b s h) l i = i
silent-act (clears-low a b s h) l i = i

silent : {p q : Point} {s t : Site} {l : List Event} → Trail ⊥ p s l q t → (telling l).indication ≡ None
unfolding telling untold
silent stop = refl
silent (move m r) = silent r
silent (act {l = l} a r) = silent-act a l (silent r)

pub record Calm (d : Done) : Type 0 where
  pub calm : refuses d.events ≡ false
  pub silent : (telling d.events).indication ≡ None

-- whatever the set of masters is
abbrev AnySet : List ℕ → Type 0
AnySet l = Any

calmly : {p q : Point} {s : Site} {d : Done} → Goes ⊥ AnySet p s q d → Calm d
calmly g = record { calm = tame g.trail; silent = silent g.trail }

pub calm-token : (clock d a : ℕ) (s : Site) → Calm (token clock d a s)
calm-token clock d a s = calmly (goes-token ⊥ AnySet clock d a s (λ z. absurd z) (λ z. absurd z) any (λ e n o i. any))

pub calm-awaited : (clock : ℕ) (octets : List ℕ) (r : Reading) (s : Site) → Calm (awaited_read clock octets r s)
calm-awaited clock octets r s = calmly (goes-awaited ⊥ AnySet clock octets r s (λ z. absurd z) (λ z. absurd z) any)

pub calm-sent : (x : Phase) (clock : ℕ) (s : Site) → Calm (sent_in x clock s)
calm-sent x clock s = calmly (goes-sent ⊥ AnySet x clock s (λ z. absurd z) any)

pub calm-slot : (x : Phase) (clock : ℕ) (s : Site) → Calm (slot_in x clock s)
calm-slot x clock s = calmly (goes-slot ⊥ AnySet x clock s (λ z. absurd z) any (λ e h. any))

-- ---- a call that is carried out tells no refusal
pub record Told (d : Called) : Type 0 where
  pub told : refuses d.events ≡ false

pub told-carried : {c : Call} {w : World} {d : Called} → Carried c w d → Told d
told-carried c = record { told = tame c.trail }

pub told-resetting : (w : World) → Told (resetting w)
told-resetting w = record { told = tame (trail-resetting ⊥ w (λ z. absurd z)) }

-- ---- demand 1: "a refused call changes nothing"
left_by : {c : Call} {w : World} {d : Called} → Course w c d → refuses d.events ≡ true → d.world ≡ w
unfolding refuse
left_by (declined n) h = refl
left_by (carried c) h = absurd (true≢false (sym h ∙ (told-carried c).told))

pub refused-leaves : (c : Call) (w : World) → refuses (call c w).events ≡ true → (call c w).world ≡ w
refused-leaves c w h = left_by (course c w) h

-- and nothing is to be sent, so that the output is as it was
unsent-by : {c : Call} {w : World} {d : Called} → Course w c d → refuses d.events ≡ true → (telling d.events).octets ≡ []
unfolding refuse telling untold adds
unsent-by (declined n) h = refl
unsent-by (carried c) h = absurd (true≢false (sym h ∙ (told-carried c).told))

pub refused-output : (c : Call) (w : World) (out : List ℕ) → refuses (call c w).events ≡ true
    → laid out 0 (telling (call c w).events).octets ≡ out
refused-output c w out h = rw (unsent-by (course c w) h) (laid_nil out 0)

-- a call whose caller is told a number is refused
pub refusal-told : (l : List Event) → ((telling l).refused ≡ 0 → ⊥) → refuses l ≡ true
unfolding telling adds untold refuses
refusal-told [] h = absurd (h refl)
refusal-told (accepted p n ∷ l) h = refusal-told l h
refusal-told (begins ∷ l) h = refusal-told l h
refusal-told (ends ∷ l) h = refusal-told l h
refusal-told (sends x o n ∷ l) h = refusal-told l h
refusal-told (confirmed p n s k ∷ l) h = refusal-told l h
refusal-told (collected p n r ∷ l) h = refusal-told l h
refusal-told (indicated i d ∷ l) h = refusal-told l h
refusal-told (resets ∷ l) h = refusal-told l h
refusal-told (refused n ∷ l) h = refl
