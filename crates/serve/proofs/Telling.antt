-- How the pieces of an act make the act: nothing sent, another act that it is, and the pass of the token. Assumes
-- nothing.
use Prim.Native.Nat.{ℕ}
use mathlib.Core.Path.{◌≡◌, sym, ap}
use mathlib.Core.List.{List, []}
use native.Mathlib.Omega.{arith}
use Rattle.ring.specs.Ring.{next_of}
use Rattle.laid.specs.Laid.{Lays}
use Rattle.laid.proofs.Laws.{laid_nil}
use Rattle.state.specs.declared.Core.{Core}
use Rattle.state.specs.declared.Moved.{Moved}
use Rattle.state.specs.World.{Rows, Done, site_of, done}
use Rattle.state.specs.World.{with_core}
use Rattle.state.specs.Pass.{ns, pass_core, pass_events, pass}
use Rattle.state.specs.Told.{Sends, Does}

-- ---- nothing sent
pub lays-nothing : (out : List ℕ) → Lays out 0 [] 255 0 out
lays-nothing out = record { place = omega arith; left = sym (laid_nil out 0); near = omega arith }

module _ {out out' : List ℕ} {r : Moved} {masters marks : List ℕ} {high low : Rows} where
  -- an act that is another
  pub does-as : {d e : Done} → d ≡ e → Does e out r masters marks high low out'
      → Does d out r masters marks high low out'
  does-as i x = rw i x

  -- the pass of the token
  pub does-pass : (c : Core) (n : ℕ) → n ≡ next_of masters c.ts.0
      → Sends (pass_core n c) (pass_events n c) out r out'
      → Does (pass (site_of c masters marks high low)) out r masters marks high low out'
  unfolding pass ns done with_core
  does-pass c n e s =
      rw (← e)
      (record { site = ap (λ (x : Core). site_of x masters marks high low) s.core; wait = s.wait; laid = s.laid })
