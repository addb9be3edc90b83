-- Spans of events of which none is of a kind: one more, two in a row, and of a kind within another. Assumes nothing.
use mathlib.Core.Bool.{Bool, true, false, true≢false}
use mathlib.Core.Path.{◌≡◌, refl, sym, ◌∙◌}
use mathlib.Core.List.{List, [], ◌∷◌, ◌++◌}
use Rattle.choice.specs.Choice.{pick}
use Rattle.choice.proofs.Rules.{pick-false}
use Rattle.state.specs.World.{Event}
use Rattle.state.specs.Submitted.{never}

pub neither : (b c : Bool) → pick b false c ≡ true → (b ≡ false) × (c ≡ true)
unfolding pick
neither true c e = absurd (true≢false (sym e))
neither false c e = (refl, e)

pub never-none : (f : Event → Bool) → never f [] ≡ true
unfolding never
never-none f = refl

pub never-more : (f : Event → Bool) (e : Event) (l : List Event) → f e ≡ false → never f l ≡ true
    → never f (e ∷ l) ≡ true
unfolding never
never-more f e l h i = pick-false _ _ h ∙ i

pub never_first : (f : Event → Bool) (e : Event) (l : List Event) → never f (e ∷ l) ≡ true
    → (f e ≡ false) × (never f l ≡ true)
unfolding never
never_first f e l h = neither (f e) (never f l) h

pub never-one : (f : Event → Bool) (e : Event) → f e ≡ false → never f (e ∷ []) ≡ true
never-one f e h = never-more f e [] h (never-none f)

pub never-append : (f : Event → Bool) (a b : List Event) → never f a ≡ true → never f b ≡ true
    → never f (a ++ b) ≡ true
never-append f [] b h i = i
never-append f (e ∷ a) b h i =
    let j = never_first f e a h in
    never-more f e (a ++ b) j.0 (never-append f a b j.1 i)

-- none before the last of them, and none behind the first
pub never-before : (f : Event → Bool) (a b : List Event) → never f (a ++ b) ≡ true → never f a ≡ true
never-before f [] b h = never-none f
never-before f (e ∷ a) b h =
    let j = never_first f e (a ++ b) h in
    never-more f e a j.0 (never-before f a b j.1)

pub never-behind : (f : Event → Bool) (a b : List Event) → never f (a ++ b) ≡ true → never f b ≡ true
never-behind f [] b h = h
never-behind f (e ∷ a) b h = never-behind f a b (never_first f e (a ++ b) h).1

-- a kind within another
pub never-within : (f g : Event → Bool) (l : List Event) → ((e : Event) → f e ≡ false → g e ≡ false)
    → never f l ≡ true → never g l ≡ true
never-within f g [] w h = never-none g
never-within f g (e ∷ l) w h =
    let j = never_first f e l h in
    never-more g e l (w e j.0) (never-within f g l w j.1)
