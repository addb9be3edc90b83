-- The requests of a queue in turn: the places of those accepted, of those confirmed, and of those that wait; and what
-- events in a row make of the line. Assumes nothing.
use Prim.Native.Nat.{ℕ, zero, suc, ◌+◌, ◌-◌, ◌<◌}
use mathlib.Core.Bool.{Bool, true, false, true≢false}
use mathlib.Core.Path.{◌≡◌, refl, sym, ap, ◌∙◌}
use mathlib.Core.List.{List, [], ◌∷◌, ◌++◌, append_assoc, append-nil}
use native.Mathlib.Omega.{arith}
use Rattle.queue.specs.declared.Queue.{Queue}
use Rattle.queue.specs.Queue.{Ruled, place, current, grown, freed}
use Rattle.queue.specs.Queue as Q
use Rattle.queue.proofs.Laws.{place-grown, place-confirmed, place-freed}
use Rattle.state.specs.declared.Priority.{Priority}
use Rattle.state.specs.declared.Priority.TheVariants.{High, Low}
use Rattle.state.specs.World.{Event, accepted, begins, ends, sends, confirmed, collected, indicated, resets}
use Rattle.state.specs.World.{refused}

-- a place of the queue y, if the request is of that queue
unfoldable pub of_queue : Priority → Priority → ℕ → List ℕ
of_queue High High n = n ∷ []
of_queue High Low n = []
of_queue Low High n = []
of_queue Low Low n = n ∷ []

-- the places of the queue y at which requests were accepted, in turn
unfoldable pub accepted_in : Priority → Event → List ℕ
accepted_in y (accepted q n) = of_queue y q n
accepted_in y begins = []
accepted_in y ends = []
accepted_in y (sends x o t) = []
accepted_in y (confirmed q n s k) = []
accepted_in y (collected q n r) = []
accepted_in y (indicated h d) = []
accepted_in y resets = []
accepted_in y (refused n) = []

unfoldable pub acceptances : Priority → List Event → List ℕ
acceptances y [] = []
acceptances y (e ∷ l) = accepted_in y e ++ acceptances y l

-- and those whose requests were confirmed, in turn
unfoldable pub confirmed_in : Priority → Event → List ℕ
confirmed_in y (accepted q n) = []
confirmed_in y begins = []
confirmed_in y ends = []
confirmed_in y (sends x o t) = []
confirmed_in y (confirmed q n s k) = of_queue y q n
confirmed_in y (collected q n r) = []
confirmed_in y (indicated h d) = []
confirmed_in y resets = []
confirmed_in y (refused n) = []

unfoldable pub confirmations : Priority → List Event → List ℕ
confirmations y [] = []
confirmations y (e ∷ l) = confirmed_in y e ++ confirmations y l

-- the n places from the kth in use on, and those of the unconfirmed requests
unfoldable pub places_from : ℕ → ℕ → Queue → List ℕ
places_from zero k q = []
places_from (suc n) k q = place q k ∷ places_from n (k + 1) q

unfoldable pub line : Queue → List ℕ
line q = places_from q.unconfirmed q.confirmed q

-- ---- the line under the acts on the queue
from-same : (n k : ℕ) (q q' : Queue) → ((j : ℕ) → place q' j ≡ place q j) → places_from n k q' ≡ places_from n k q
unfolding places_from
from-same zero k q q' h = refl
from-same (suc n) k q q' h = rw (h k) (ap (λ (l : List ℕ). place q k ∷ l) (from-same n (k + 1) q q' h))

from_last : (n k : ℕ) (q : Queue) → places_from (n + 1) k q ≡ places_from n k q ++ (place q (k + n) ∷ [])
unfolding places_from
from_last zero k q =
    let e : k + 0 ≡ k = omega arith in
    rw e
from_last (suc n) k q =
    let e : k + 1 + n ≡ k + suc n = omega arith in
    let f : suc n + 1 ≡ suc (n + 1) = omega arith in
    rw f (ap (λ (l : List ℕ). place q k ∷ l) (rw e at (from_last n (k + 1) q)))

from-shift : (n k : ℕ) (q q' : Queue) → ((j : ℕ) → j < k + n → place q' j ≡ place q (j + 1))
    → places_from n k q' ≡ places_from n (k + 1) q
unfolding places_from
from-shift zero k q q' h = refl
from-shift (suc n) k q q' h =
    rw (h k (omega arith))
    (ap (λ (l : List ℕ). place q (k + 1) ∷ l) (from-shift n (k + 1) q q' (λ j i. h j (omega arith))))

pub line-grown : (q : Queue) → line (grown q) ≡ line q ++ (place q (q.confirmed + q.unconfirmed) ∷ [])
unfolding line grown
line-grown q = from-same _ _ q _ (λ j. place-grown q j) ∙ from_last q.unconfirmed q.confirmed q

from_first : (n k : ℕ) (q : Queue) → 0 < n → places_from n k q ≡ place q k ∷ places_from (n - 1) (k + 1) q
unfolding places_from
from_first zero k q h = absurd (omega arith)
from_first (suc n) k q h =
    let e : suc n - 1 ≡ n = omega arith in
    rw e

pub line-confirmed : (q : Queue) → 0 < q.unconfirmed → line q ≡ current q ∷ line (Q.confirmed q)
unfolding line current Q.confirmed
line-confirmed q h =
    from_first q.unconfirmed q.confirmed q h
    ∙ ap (λ (l : List ℕ). place q q.confirmed ∷ l) (sym (from-same _ _ q _ (λ j. place-confirmed q j)))

pub line-freed : (q : Queue) → Ruled q → 0 < q.confirmed → line (freed q) ≡ line q
unfolding line freed
line-freed q u h =
    let e : q.confirmed - 1 + 1 ≡ q.confirmed = omega arith in
    rw e at (from-shift q.unconfirmed (q.confirmed - 1) q _ (λ j i. place-freed q j u (omega (arith, u.used))))

-- ---- events in a row
acceptances-append : (y : Priority) (a b : List Event) → acceptances y (a ++ b) ≡ acceptances y a ++ acceptances y b
unfolding acceptances
acceptances-append y [] b = refl
acceptances-append y (e ∷ a) b =
    ap (λ (l : List ℕ). accepted_in y e ++ l) (acceptances-append y a b) ∙ sym (append_assoc (accepted_in y e) _ _)

confirmations-append : (y : Priority) (a b : List Event)
    → confirmations y (a ++ b) ≡ confirmations y a ++ confirmations y b
unfolding confirmations
confirmations-append y [] b = refl
confirmations-append y (e ∷ a) b =
    ap (λ (l : List ℕ). confirmed_in y e ++ l) (confirmations-append y a b) ∙ sym (append_assoc (confirmed_in y e) _ _)

-- the line l and those accepted are those confirmed and the line l'
pub record Turns (y : Priority) (l : List ℕ) (e : List Event) (l' : List ℕ) : Type 0 where
  pub turns : l ++ acceptances y e ≡ confirmations y e ++ l'

pub turns_then : (y : Priority) (l m n : List ℕ) (a b : List Event) → Turns y l a m → Turns y m b n
    → Turns y l (a ++ b) n
turns_then y l m n a b s t =
    record {
      turns =
          ap (λ (z : List ℕ). l ++ z) (acceptances-append y a b)
          ∙ sym (append_assoc l (acceptances y a) (acceptances y b))
          ∙ ap (λ (z : List ℕ). z ++ acceptances y b) s.turns
          ∙ append_assoc (confirmations y a) m (acceptances y b)
          ∙ ap (λ (z : List ℕ). confirmations y a ++ z) t.turns
          ∙ sym (append_assoc (confirmations y a) (confirmations y b) n)
          ∙ ap (λ (z : List ℕ). z ++ n) (sym (confirmations-append y a b));
    }

-- ---- events that tell of no acceptance and no confirmation
unfoldable pub mute : List Event → Bool
mute [] = true
mute (accepted q n ∷ l) = false
mute (begins ∷ l) = mute l
mute (ends ∷ l) = mute l
mute (sends x o t ∷ l) = mute l
mute (confirmed q n s k ∷ l) = false
mute (collected q n r ∷ l) = mute l
mute (indicated h d ∷ l) = mute l
mute (resets ∷ l) = mute l
mute (refused n ∷ l) = mute l

none-accepted : (y : Priority) (l : List Event) → mute l ≡ true → acceptances y l ≡ []
unfolding mute acceptances accepted_in
none-accepted y [] h = refl
none-accepted y (accepted q n ∷ l) h = absurd (true≢false (sym h))
none-accepted y (begins ∷ l) h = none-accepted y l h
none-accepted y (ends ∷ l) h = none-accepted y l h
none-accepted y (sends x o t ∷ l) h = none-accepted y l h
none-accepted y (confirmed q n s k ∷ l) h = absurd (true≢false (sym h))
none-accepted y (collected q n r ∷ l) h = none-accepted y l h
none-accepted y (indicated z d ∷ l) h = none-accepted y l h
none-accepted y (resets ∷ l) h = none-accepted y l h
none-accepted y (refused n ∷ l) h = none-accepted y l h

none-confirmed : (y : Priority) (l : List Event) → mute l ≡ true → confirmations y l ≡ []
unfolding mute confirmations confirmed_in
none-confirmed y [] h = refl
none-confirmed y (accepted q n ∷ l) h = absurd (true≢false (sym h))
none-confirmed y (begins ∷ l) h = none-confirmed y l h
none-confirmed y (ends ∷ l) h = none-confirmed y l h
none-confirmed y (sends x o t ∷ l) h = none-confirmed y l h
none-confirmed y (confirmed q n s k ∷ l) h = absurd (true≢false (sym h))
none-confirmed y (collected q n r ∷ l) h = none-confirmed y l h
none-confirmed y (indicated z d ∷ l) h = none-confirmed y l h
none-confirmed y (resets ∷ l) h = none-confirmed y l h
none-confirmed y (refused n ∷ l) h = none-confirmed y l h

pub turns-mute : (y : Priority) (l : List ℕ) (e : List Event) → mute e ≡ true → Turns y l e l
turns-mute y l e h = record { turns = rw (none-accepted y e h, none-confirmed y e h) (append-nil l) }

-- ---- one acceptance, one confirmation: in the queue's own line, or in the other's
pub turns-confirmed : (y : Priority) (n s k : ℕ) (l : List ℕ) → Turns y (n ∷ l) (confirmed y n s k ∷ []) l
unfolding acceptances accepted_in confirmations confirmed_in of_queue
turns-confirmed High n s k l = record { turns = append-nil (n ∷ l) }
turns-confirmed Low n s k l = record { turns = append-nil (n ∷ l) }

pub turns-accepted : (y : Priority) (n : ℕ) (l : List ℕ) → Turns y l (accepted y n ∷ []) (l ++ (n ∷ []))
unfolding acceptances accepted_in confirmations confirmed_in of_queue
turns-accepted High n l = record { turns = refl }
turns-accepted Low n l = record { turns = refl }

unfoldable pub other : Priority → Priority
other High = Low
other Low = High

pub turns-other-confirmed : (y : Priority) (n s k : ℕ) (l : List ℕ) → Turns y l (confirmed (other y) n s k ∷ []) l
unfolding acceptances accepted_in confirmations confirmed_in of_queue other
turns-other-confirmed High n s k l = record { turns = append-nil l }
turns-other-confirmed Low n s k l = record { turns = append-nil l }

pub turns-other-accepted : (y : Priority) (n : ℕ) (l : List ℕ) → Turns y l (accepted (other y) n ∷ []) l
unfolding acceptances accepted_in confirmations confirmed_in of_queue other
turns-other-accepted High n l = record { turns = append-nil l }
turns-other-accepted Low n l = record { turns = append-nil l }
