-- How much a call tells: one sending at most and nothing filed, or, of submit and collect, one event alone. Assumes
-- nothing.
use Prim.Native.Nat.{ℕ, ◌+◌, ◌≤◌}
use mathlib.Core.Bool.{Bool, true, false, true≢false}
use mathlib.Core.List.{List, [], ◌∷◌, ◌++◌, tail-eq_of_cons-eq, cons-ne-nil}
use mathlib.Core.Path.{◌≡◌, refl, sym}
use native.Mathlib.Omega.{arith}
use Rattle.state.specs.World.{Event, accepted, begins, ends, sends, confirmed, collected, indicated, resets}
use Rattle.state.specs.World.{refused}
use Rattle.state.specs.Runs.{sending_of, sendings_in}
use Rattle.state.specs.Submitted.{never}
use Rattle.state.proofs.Spans.{never-none, never-more, never_first, never-before, never-behind}

-- an event that files: an acceptance, or a record collected
unfoldable pub files : Event → Bool
files (accepted p n) = true
files begins = false
files ends = false
files (sends x o t) = false
files (confirmed p n status k) = false
files (collected p n r) = true
files (indicated h d) = false
files resets = false
files (refused n) = false

-- a sending weighs 1, and what files more than any call but submit and collect may tell
unfoldable pub weight : Event → ℕ
weight (accepted p n) = 2
weight begins = 0
weight ends = 0
weight (sends x o t) = 1
weight (confirmed p n status k) = 0
weight (collected p n r) = 2
weight (indicated h d) = 0
weight resets = 0
weight (refused n) = 0

unfoldable pub weight_in : List Event → ℕ
weight_in [] = 0
weight_in (e ∷ l) = weight e + weight_in l

pub weights-append : (a b : List Event) → weight_in (a ++ b) ≡ weight_in a + weight_in b
unfolding weight_in
weights-append [] b = omega arith
weights-append (e ∷ a) b = omega (arith, weights-append a b)

-- ---- events that weigh 1 at most, or, if the call may file, one alone that is no sending
pub data Spare : Bool → List Event → Type 0 where
  light : {b : Bool} {l : List Event} → weight_in l ≤ 1 → Spare b l
  solo : (e : Event) → sending_of e ≡ 0 → Spare true (e ∷ [])

-- one sending at most
sending-below : (e : Event) → sending_of e ≤ weight e
unfolding sending_of weight
sending-below (accepted p n) = omega arith
sending-below begins = omega arith
sending-below ends = omega arith
sending-below (sends x o t) = omega arith
sending-below (confirmed p n status k) = omega arith
sending-below (collected p n r) = omega arith
sending-below (indicated h d) = omega arith
sending-below resets = omega arith
sending-below (refused n) = omega arith

sendings-below : (l : List Event) → sendings_in l ≤ weight_in l
unfolding sendings_in weight_in
sendings-below [] = omega arith
sendings-below (e ∷ l) = omega (arith, sending-below e, sendings-below l)

pub spare-sendings : {b : Bool} {l : List Event} → Spare b l → sendings_in l ≤ 1
unfolding sendings_in
spare-sendings {l = l} (light h) = omega (arith, h, sendings-below l)
spare-sendings (solo e h) = omega (arith, h)

-- nothing filed, but alone
unfiled-light : (e : Event) → weight e ≤ 1 → files e ≡ false
unfolding weight files
unfiled-light (accepted p n) h = absurd (omega (arith, h))
unfiled-light begins h = refl
unfiled-light ends h = refl
unfiled-light (sends x o t) h = refl
unfiled-light (confirmed p n status k) h = refl
unfiled-light (collected p n r) h = absurd (omega (arith, h))
unfiled-light (indicated i d) h = refl
unfiled-light resets h = refl
unfiled-light (refused n) h = refl

light-unfiled : (l : List Event) → weight_in l ≤ 1 → never files l ≡ true
unfolding weight_in
light-unfiled [] h = never-none files
light-unfiled (e ∷ l) h =
    never-more files e l (unfiled-light e (omega (arith, h))) (light-unfiled l (omega (arith, h)))

pub spare-unfiled : {b : Bool} {l : List Event} → Spare b l → b ≡ false → never files l ≡ true
spare-unfiled {l = l} (light h) i = light-unfiled l h
spare-unfiled (solo e h) i = absurd (true≢false i)

alone : (e f : Event) (former latter : List Event) → e ∷ [] ≡ former ++ (f ∷ latter)
    → (former ≡ []) × (latter ≡ [])
alone e f [] latter i = (refl, sym (tail-eq_of_cons-eq i))
alone e f (g ∷ []) latter i = absurd (cons-ne-nil _ _ (sym (tail-eq_of_cons-eq i)))
alone e f (g ∷ (h ∷ former)) latter i = absurd (cons-ne-nil _ _ (sym (tail-eq_of_cons-eq i)))

-- what is told beside an event files nothing
pub spare-beside : {b : Bool} {l : List Event} → Spare b l → (former latter : List Event) (e : Event)
    → l ≡ former ++ (e ∷ latter) → (never files former ≡ true) × (never files latter ≡ true)
spare-beside {l = l} (light h) former latter e i =
    let n = rw i at (light-unfiled l h) in (
      never-before files former (e ∷ latter) n,
      (never_first files e latter (never-behind files former (e ∷ latter) n)).1,
    )
spare-beside (solo f h) former latter e i =
    let a = alone f e former latter i in (rw a.0 (never-none files), rw a.1 (never-none files))
