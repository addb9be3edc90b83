-- What a body that is not refused tells: its data begin within it. Assumes nothing.
use Prim.Native.Nat.{ℕ, ◌+◌, ◌<◌, ◌≤◌}
use mathlib.Core.Bool.{Bool, true, false, true≢false}
use mathlib.Core.List.{List}
use mathlib.Core.Path.{◌≡◌, refl}
use native.Mathlib.Omega.{arith}
use lib.ListN.{length}
use Rattle.choice.specs.Choice.{pick, less}
use Rattle.choice.proofs.Rules.{less-true, pick_true, true-less, passed, held, is_said}
use Rattle.frame.specs.Reading.{octet, extensions, data_at, misnamed, body_refusal}

-- an address octet over 127 announces one octet
pub announced : (a : ℕ) → 127 < a → extensions a ≡ 1
unfolding extensions
announced a h = pick_true 1 0 (less-true h)

-- by cases of the two tests: an octet is announced, and it is there
within : (i n : ℕ) (r t u : Bool) → i ≤ n → less i n ≡ u → pick t (pick u r true) false ≡ false → i + pick t 1 0 ≤ n
unfolding pick
within i n r false u h q e = omega arith
within i n r true true h q e = omega (arith, true-less i n q)
within i n r true false h q e = absurd (true≢false e)

-- an extension octet that is not refused stands within the body
misnamed-within : (b : List ℕ) (a i most : ℕ) → i ≤ length b → misnamed b a i most ≡ false → i + extensions a ≤ length b
unfolding misnamed extensions
misnamed-within b a i most h e = within i (length b) _ (less 127 a) (less i (length b)) h refl e

pub data-within : (b : List ℕ) → 3 ≤ length b → body_refusal b ≡ 0 → data_at b ≤ length b
unfolding body_refusal data_at
data-within b h e =
    let e₁ = (passed _ 8 _ (omega arith) e).1 in
    let e₂ = (passed _ 8 _ (omega arith) e₁).1 in
    let e₃ = (held _ _ 9 (omega arith) e₂).1 in
    let m = passed _ 10 _ (omega arith) e₃ in
    let n = passed _ 10 _ (omega arith) m.1 in
    misnamed-within b (octet b 1) (3 + extensions (octet b 0)) 62
    (misnamed-within b (octet b 0) 3 63 h (is_said m.0)) (is_said n.0)

pub ruleset lies_within = (data-within)
