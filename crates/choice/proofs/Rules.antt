-- The rules by which a return is held to a chain of `pick`: for each test one rule for either answer. Each concludes
-- `z ≡ pick (test) x y`, so `search (picks, asked)` finds the return's place in the chain. Assumes nothing.
use Prim.Native.Nat.{ℕ, ◌<◌, ◌≤◌}
use mathlib.Core.Bool.{Bool, true, false, not, true≢false}
use mathlib.Core.Path.{◌≡◌, refl, sym, ◌∙◌}
use native.Mathlib.Omega.{arith}
use borrow.Author.Tests.{lt-ltb, le-ltb, le-leb, lt-leb, eq-eqb, ne_eqb, ltb-true, ltb-false, leb-true, leb-false}
use borrow.Author.Tests.{eqb-true, eqb-false, not-true, not-false}
use Rattle.choice.specs.Choice.{both, pick, less, most, same, said}

-- ---- what a test says of its numbers, both ways
pub less-true : {a b : ℕ} → a < b → less a b ≡ true
unfolding less
less-true {a} {b} h = lt-ltb a b h

pub less-false : {a b : ℕ} → b ≤ a → less a b ≡ false
unfolding less
less-false {a} {b} h = le-ltb a b h

pub most-true : {a b : ℕ} → a ≤ b → most a b ≡ true
unfolding most
most-true {a} {b} h = le-leb a b h

pub most-false : {a b : ℕ} → b < a → most a b ≡ false
unfolding most
most-false {a} {b} h = lt-leb a b h

pub same_true : {a b : ℕ} → a ≡ b → same a b ≡ true
unfolding same
same_true {a} {b} h = eq-eqb a b h

pub same_false : {a b : ℕ} → (a ≡ b → ⊥) → same a b ≡ false
unfolding same
same_false {a} {b} h = ne_eqb a b h

pub true-less : (a b : ℕ) → less a b ≡ true → a < b
unfolding less
true-less a b h = ltb-true a b h

pub false-less : (a b : ℕ) → less a b ≡ false → b ≤ a
unfolding less
false-less a b h = ltb-false a b h

pub true-most : (a b : ℕ) → most a b ≡ true → a ≤ b
unfolding most
true-most a b h = leb-true a b h

pub false-most : (a b : ℕ) → most a b ≡ false → b < a
unfolding most
false-most a b h = leb-false a b h

pub true_same : (a b : ℕ) → same a b ≡ true → a ≡ b
unfolding same
true_same a b h = eqb-true a b h

pub false_same : (a b : ℕ) → same a b ≡ false → a ≡ b → ⊥
unfolding same
false_same a b h = eqb-false a b h

-- ---- a pick whose test is known
pub pick_true : {A : Type 0} {b : Bool} (x y : A) → b ≡ true → pick b x y ≡ x
unfolding pick
pick_true x y h = rw h

pub pick-false : {A : Type 0} {b : Bool} (x y : A) → b ≡ false → pick b x y ≡ y
unfolding pick
pick-false x y h = rw h

-- a test as its own answer
pub pick-itself : (b : Bool) → pick b true false ≡ b
unfolding pick
pick-itself true = refl
pick-itself false = refl

-- and turned round
pub pick-not : (b : Bool) → pick b false true ≡ not b
unfolding pick
pick-not true = refl
pick-not false = refl

pub not-turned : (b : Bool) → pick b false true ≡ false → b ≡ true
unfolding pick
not-turned true e = refl
not-turned false e = sym e

-- ---- the rules, for a test of numbers
pub if-less : {A : Type 0} {a b : ℕ} {x z : A} (y : A) → a < b → z ≡ x → z ≡ pick (less a b) x y
if-less _ h e = e ∙ sym (pick_true _ _ (less-true h))

pub unless-less : {A : Type 0} {a b : ℕ} {y z : A} (x : A) → b ≤ a → z ≡ y → z ≡ pick (less a b) x y
unless-less _ h e = e ∙ sym (pick-false _ _ (less-false h))

pub if-most : {A : Type 0} {a b : ℕ} {x z : A} (y : A) → a ≤ b → z ≡ x → z ≡ pick (most a b) x y
if-most _ h e = e ∙ sym (pick_true _ _ (most-true h))

pub unless-most : {A : Type 0} {a b : ℕ} {y z : A} (x : A) → b < a → z ≡ y → z ≡ pick (most a b) x y
unless-most _ h e = e ∙ sym (pick-false _ _ (most-false h))

pub if-same : {A : Type 0} {a b : ℕ} {x z : A} (y : A) → a ≡ b → z ≡ x → z ≡ pick (same a b) x y
if-same _ h e = e ∙ sym (pick_true _ _ (same_true h))

pub unless-same : {A : Type 0} {a b : ℕ} {y z : A} (x : A) → (a ≡ b → ⊥) → z ≡ y → z ≡ pick (same a b) x y
unless-same _ h e = e ∙ sym (pick-false _ _ (same_false h))

-- ---- the rules, for a test that a callee answered: r is its result, and the branch was taken or left on r or on its negation
pub said-true : {r b : Bool} → r ≡ b → r ≡ true → said b ≡ true
unfolding said
said-true e h = sym e ∙ h

pub said-false : {r b : Bool} → r ≡ b → r ≡ false → said b ≡ false
unfolding said
said-false e h = sym e ∙ h

pub asked-true : {A : Type 0} {r b : Bool} {x z : A} (y : A) → r ≡ b → r ≡ true → z ≡ x → z ≡ pick (said b) x y
asked-true _ e h q = q ∙ sym (pick_true _ _ (said-true e h))

pub asked-false : {A : Type 0} {r b : Bool} {y z : A} (x : A) → r ≡ b → r ≡ false → z ≡ y → z ≡ pick (said b) x y
asked-false _ e h q = q ∙ sym (pick-false _ _ (said-false e h))

pub denied-true : {A : Type 0} {r b : Bool} {y z : A} (x : A) → r ≡ b → not r ≡ true → z ≡ y → z ≡ pick (said b) x y
denied-true {r = r} _ e h q = asked-false _ e (not-true r h) q

pub denied-false : {A : Type 0} {r b : Bool} {x z : A} (y : A) → r ≡ b → not r ≡ false → z ≡ x → z ≡ pick (said b) x y
denied-false {r = r} _ e h q = asked-true _ e (not-false r h) q

-- ---- the rules, for a test that is a bool of the function's own
pub flag_true : {A : Type 0} {b : Bool} {x z : A} (y : A) → b ≡ true → z ≡ x → z ≡ pick b x y
flag_true _ h e = e ∙ sym (pick_true _ _ h)

pub flag-false : {A : Type 0} {b : Bool} {y z : A} (x : A) → b ≡ false → z ≡ y → z ≡ pick b x y
flag-false _ h e = e ∙ sym (pick-false _ _ h)

pub ruleset picks = (if-less, unless-less, if-most, unless-most, if-same, unless-same, refl)

pub ruleset asked = (asked-true, asked-false, denied-true, denied-false, refl)

pub ruleset flags = (flag_true, flag-false, refl)

-- ---- a chain of refusals that came to 0: each test on the way was passed
pub passed : (b : Bool) (n y : ℕ) → 0 < n → pick b n y ≡ 0 → (b ≡ false) × (y ≡ 0)
unfolding pick
passed true n y p e = absurd (omega arith)
passed false n y p e = (refl, e)

pub held : (b : Bool) (y n : ℕ) → 0 < n → pick b y n ≡ 0 → (b ≡ true) × (y ≡ 0)
unfolding pick
held true y n p e = (refl, e)
held false y n p e = absurd (omega arith)

-- ---- the same for a chain of tests that came to false
pub unrefused : (b y : Bool) → pick b true y ≡ false → (b ≡ false) × (y ≡ false)
unfolding pick
unrefused true y e = absurd (true≢false e)
unrefused false y e = (refl, e)

pub granted : (b y : Bool) → pick b y true ≡ false → (b ≡ true) × (y ≡ false)
unfolding pick
granted true y e = (refl, e)
granted false y e = absurd (true≢false e)

-- ---- and for one that came to true
pub both_true : (b y : Bool) → both b y ≡ true → (b ≡ true) × (y ≡ true)
unfolding pick
both_true true y e = (refl, e)
both_true false y e = absurd (true≢false (sym e))

-- ---- a fact of either side is a fact of the choice
pub by-pick : {A : Type 0} (P : A → Type 0) (b : Bool) {x y : A} → P x → P y → P (pick b x y)
unfolding pick
by-pick P true x y = x
by-pick P false x y = y

pub is_said : {b r : Bool} → said b ≡ r → b ≡ r
unfolding said
is_said e = e
