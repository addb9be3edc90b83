-- A token that comes for the second time, and slot expiry after three sendings of the token. Assumes nothing.
use Prim.Native.Nat.{ℕ, ◌≤◌}
use mathlib.Core.Path.{◌≡◌, refl, sym}
use mathlib.Core.List.{List}
use Rattle.choice.proofs.Rules.{if-same, unless-same, unless-less}
use Rattle.frame.specs.declared.Address.{Address}
use Rattle.ring.specs.Ring.{next_of, enter, remove}
use Rattle.state.specs.declared.Core.{Core}
use Rattle.state.specs.declared.Moved.{Moved}
use Rattle.state.specs.World.{Rows, Site, site_of, with_ps, with_core}
use Rattle.state.specs.World.{with_masters}
use Rattle.state.specs.Pass.{ns, pass_core, pass_events, pass, ps_without, without, recheck}
use Rattle.state.specs.Hold.{begin, admit, token}
use Rattle.state.specs.Told.{Sends, Does, Rechecks}
use Rattle.serve.proofs.Telling.{does-pass}

-- ---- a token, by its sender
pub second-time : (clock d a : ℕ) (s : Site) → d ≡ s.core.ts.0 → (a ≡ s.core.ts.0 → ⊥) → (a ≡ s.core.ps.0 → ⊥)
    → a ≡ s.core.stranger.0 → token clock d a s ≡ begin clock (admit a s)
unfolding token
second-time clock d a s h i j k = sym (if-same _ h (unless-same _ i (unless-same _ j (if-same _ k refl))))

-- ---- the acts, by the values that the code comes by
module _ (masters marks : List ℕ) (high low : Rows) where
  is-admitted : (c : Core) (a : Address) {c' : Core} {masters' : List ℕ} → c' ≡ with_ps a c
      → masters' ≡ enter masters a.0
      → admit a.0 (site_of c masters marks high low) ≡ site_of c' masters' marks high low
  unfolding admit with_core with_masters
  is-admitted c a e f = rw (e, f)

  pub does-admitted : (clock : ℕ) (c : Core) (a : Address) {c' : Core} {masters' out out' : List ℕ} {r : Moved}
      → c' ≡ with_ps a c → masters' ≡ enter masters a.0
      → Does (begin clock (site_of c' masters' marks high low)) out r masters' marks high low out'
      → Does (begin clock (admit a.0 (site_of c masters marks high low))) out r masters' marks high low out'
  does-admitted clock c a e f d = rw (is-admitted c a e f) d

  is-without : (c : Core) (n : ℕ) (a : Address) {c' : Core} {masters' : List ℕ} → n ≡ next_of masters c.ts.0
      → masters' ≡ remove masters n → a.0 ≡ ps_without n masters' c → c' ≡ with_ps a c
      → without (site_of c masters marks high low) ≡ site_of c' masters' marks high low
  unfolding without ns with_core with_masters
  is-without c n a e f g i = rw (← e, ← f, ← g, i)

-- ---- slot expiry: after three sendings NS leaves the ring
leaves_at : (s : Site) → 3 ≤ s.core.doing.sendings → recheck s ≡ pass (without s)
unfolding recheck
leaves_at s h = sym (unless-less _ h refl)

module _ (c : Core) (masters : List ℕ) (n : ℕ) {out out' : List ℕ} {r : Moved} (e : n ≡ next_of masters c.ts.0) where
  pub rechecks-next : (a : Address) (m : ℕ) {c' : Core} {masters' : List ℕ} → 3 ≤ c.doing.sendings
      → masters' ≡ remove masters n → a.0 ≡ ps_without n masters' c → c' ≡ with_ps a c
      → m ≡ next_of masters' c'.ts.0 → Sends (pass_core m c') (pass_events m c') out r out'
      → Rechecks c masters out r masters' out'
  rechecks-next a m {c' = c'} h f g i j s =
      record {
        does = λ k hi lo. rw (leaves_at (site_of c masters k hi lo) h, is-without masters k hi lo c n a e f g i)
            (does-pass c' m j s);
      }
