-- If-else and the tests on numbers that definitions by cases are made of. They are shut, so that a goal keeps the
-- shape of the definition and each return of a function fits one rule (proofs/Rules.antt). Assumes nothing.
use Rattle.std.specs.Prelude.{ℕ, Bool, true, false, ltb, leb, eqb}

-- the first where the test holds, else the second
unfoldable pub pick : {A : Type 0} → Bool → A → A → A
pick true x y = x
pick false x y = y

-- a is below b
unfoldable pub less : ℕ → ℕ → Bool
less a b = ltb a b

-- a is at most b
unfoldable pub most : ℕ → ℕ → Bool
most a b = leb a b

-- a is b
unfoldable pub same : ℕ → ℕ → Bool
same a b = eqb a b

-- a test that another function answers, by its own definition
unfoldable pub said : Bool → Bool
said b = b

-- the first test or the second
abbrev pub either : Bool → Bool → Bool
either a b = pick a true b

-- the first test and the second
abbrev pub both : Bool → Bool → Bool
both a b = pick a b false
