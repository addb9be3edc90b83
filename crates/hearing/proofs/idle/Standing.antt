-- What a call leaves where an act was done, where a request was answered, and where the call is refused: each is what
-- the definition tells. Assumes nothing.
use Prim.Native.Nat.{ℕ}
use mathlib.Core.Path.{◌≡◌, refl}
use mathlib.Core.List.{List}
use lib.ListN.{length}
use native.Mathlib.Omega.{arith}
use Rattle.laid.specs.Laid.{Lays}
use Rattle.laid.proofs.Laws.{laid_nil}
use Rattle.state.specs.declared.Core.{Core}
use Rattle.state.specs.declared.Kept.{Kept}
use Rattle.state.specs.Told.{Heard}
use Rattle.state.specs.declared.Heard.{Heard as GivenHeard}
use Rattle.refusal.specs.declared.Refusal.{Refusal}
use Rattle.refusal.specs.Refusal.{number}
use Rattle.std.specs.Prelude.{None, Result, Ok, Err}
use Rattle.state.specs.declared.Moved.{Moved}
use Rattle.state.specs.declared.Spoken.{Spoken}
use Rattle.state.specs.declared.Responder.{Responder}
use Rattle.state.specs.World.{Rows, Event, Done, with_site, with_memory}
use Rattle.state.specs.Answering.{Answered, replies}
use Rattle.state.specs.Calls.{called, replying, refuse}
use Rattle.state.specs.Told.{Does, Says, telling, untold, adds, stands, standing, heard_by, heard_of, world_in}
use Rattle.state.proofs.Refused.{Calm, unrefused}
use Rattle.state.proofs.Answers.{Answers, none, replied, shown, Answering}

-- octets laid at the start of the output end at their count
placed : {n m : ℕ} {out out' : List ℕ} (o : List ℕ) → Lays out 0 o m n out' → n ≡ length o
placed o l = omega (arith, l.place)

-- the refusal, told alone
abbrev pub refusing : ℕ → Core → Kept → Heard
refusing n c k = record { refused = n; core = c; kept = k; length = 0; wait = record { 0 = 0 }; indication = None }

abbrev pub moving : Moved → Kept → Heard
moving m k = record { refused = 0; core = m.core; kept = k; length = m.length; wait = m.wait; indication = None }

abbrev pub speaking : Core → Spoken → Heard
speaking c s =
    record { refused = 0; core = c; kept = s.kept; length = s.length; wait = s.wait; indication = s.indication }

-- the same as the code gives it
pub heard-moved : (m : Moved) (k : Kept) (c' : Core) (k' : Kept) {a : GivenHeard}
    → a ≡ record { core = m.core; kept = k; length = m.length; wait = m.wait; indication = None }
    → heard_by c' k' (Ok a) ≡ moving m k
unfolding heard_by
heard-moved m k c' k' e = rw e

pub heard-spoken : (c : Core) (s : Spoken) (c' : Core) (k' : Kept) {a : GivenHeard}
    → a ≡ record { core = c; kept = s.kept; length = s.length; wait = s.wait; indication = s.indication }
    → heard_by c' k' (Ok a) ≡ speaking c s
unfolding heard_by
heard-spoken c s c' k' e = rw e

pub heard-refused : (c : Core) (k : Kept) (r : Refusal) {a : Result GivenHeard Refusal} → a ≡ Err r
    → heard_by c k a ≡ refusing (number r) c k
unfolding heard_by
heard-refused c k r e = rw e

module _ {c : Core} {k : Kept} {masters t marks points octets : List ℕ} {high low : Rows} {out : List ℕ}
    {r : Heard} where
  pub stands-refused : (n : ℕ) → r ≡ refusing n c k
      → stands r masters t marks points octets high low out
      ≡ standing (refuse n (world_in c k masters t marks points octets high low)) out
  unfolding standing heard_of refuse telling untold adds
  stands-refused n e = rw (e, laid_nil out 0)

module _ (c : Core) {k : Kept} (masters : List ℕ) {t : List ℕ} (marks : List ℕ) {points octets : List ℕ}
    (high low : Rows) {out : List ℕ} {r : Heard} {masters' marks' : List ℕ} {high' low' : Rows} {out' : List ℕ} where
  pub stands-does : (d : Done) {m : Moved} → Calm d → Does d out m masters' marks' high' low' out' → r ≡ moving m k
      → stands r masters' t marks' points octets high' low' out'
      ≡ standing (called d (world_in c k masters t marks points octets high low)) out
  unfolding standing heard_of called with_site
  stands-does d {m} q x e =
      rw (e, ← x.site, unrefused _ q.calm, q.silent, ← x.wait, placed _ x.laid, ← x.laid.left)

answers-unrefused : {r : Responder} {l : List Event} → Answers r l → (telling l).refused ≡ 0
unfolding telling untold adds replies
answers-unrefused none = refl
answers-unrefused (replied o l e a) = answers-unrefused a
answers-unrefused (shown h d l a) = answers-unrefused a

module _ {v : Responder} {c : Core} (k : Kept) {masters t marks points : List ℕ} (octets : List ℕ) {high low : Rows}
    {out : List ℕ} {r : Heard} {octets' out' : List ℕ} where
  pub stands-says : (a : Answered) {s : Spoken} → Answering v a → Says a.memory.kept a.events out s out'
      → octets' ≡ a.memory.octets → r ≡ speaking c s
      → stands r masters t marks points octets' high low out'
      ≡ standing (replying a (world_in c k masters t marks points octets high low)) out
  unfolding standing heard_of replying with_memory
  stands-says a q x f e =
      rw (e, f, x.kept, answers-unrefused q.told, ← x.indication, ← x.wait, placed _ x.laid, ← x.laid.left)
