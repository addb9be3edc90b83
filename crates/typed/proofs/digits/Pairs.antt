-- The walks over a word of hex digits and over octets, one step on or at an end. Assumes nothing.
use Prim.Native.Nat.{ℕ, zero, suc, ◌+◌, ◌*◌, ◌/◌, ◌%◌, ◌<◌, ◌≤◌}
use mathlib.Core.Bool.{Bool, true, false}
use mathlib.Core.List.{List, [], ◌∷◌}
use mathlib.Core.Path.{◌≡◌, refl, sym, ◌∙◌}
use native.Mathlib.Omega.{arith}
use lib.ListN.{length, get_or, set, drop, length-drop, length-set, drop_of_length-le}
use Rattle.choice.specs.Choice.{pick, less, same, said}
use Rattle.choice.proofs.Rules.{false-less, true-less}
use Rattle.laid.specs.Laid.{laid, Lays}
use Rattle.laid.proofs.Laws.{laid-sets, laid-behind, laid_nil}
use Rattle.std.proofs.Common.{eqb, not, ◌&&◌}
use Rattle.std.specs.Char.{is_ascii_hexdigit}
use Rattle.std.specs.List.{list_all}
use Rattle.typed.proofs.words.Walk.{left-cons}
use Rattle.typed.specs.Digits.{nibble, all_hex, octets, dash, is_octets, glyph, hex_of}

-- ---- `-`
pub dash_reads : (l : List ℕ) → dash l ≡ (eqb (length l) 1 && eqb (get_or l 0 0) 45)
unfolding dash same
dash_reads [] = refl
dash_reads (c ∷ []) = refl
dash_reads (c ∷ (d ∷ l)) = grind arith

pub dash-length : (l : List ℕ) → (length l ≡ 1 → ⊥) → false ≡ dash l
unfolding dash
dash-length [] n = refl
dash-length (c ∷ []) n = absurd (n refl)
dash-length (c ∷ (d ∷ l)) n = refl

-- ---- all hex digits
cases : {P : Type 0} (c a : ℕ) → (c < a → P) → (a ≤ c → P) → P
cases {P} c a f g = from (less c a) refl
  where
    from : (b : Bool) → less c a ≡ b → P
    from true e = f (true-less c a e)
    from false e = g (false-less c a e)

nibble-digit : (c : ℕ) → 48 ≤ c → c ≤ 57 → nibble c ≤ 15
unfolding nibble pick less
nibble-digit c h k = grind arith

nibble-upper : (c : ℕ) → 65 ≤ c → c ≤ 70 → nibble c ≤ 15
unfolding nibble pick less
nibble-upper c h k = grind arith

nibble-lower : (c : ℕ) → 97 ≤ c → c ≤ 102 → nibble c ≤ 15
unfolding nibble pick less
nibble-lower c h k = grind arith

nibble-none : (c : ℕ) → (48 ≤ c → c ≤ 57 → ⊥) → (65 ≤ c → c ≤ 70 → ⊥) → (97 ≤ c → c ≤ 102 → ⊥) → nibble c ≡ 16
unfolding nibble pick less
nibble-none c f g h = grind (arith, f, g, h)

pub hex_is : (c : ℕ) → less 15 (nibble c) ≡ not (is_ascii_hexdigit c)
unfolding less
hex_is c = grind (arith, nibble-digit c, nibble-upper c, nibble-lower c, nibble-none c)

pub all_hex_is : (l : List ℕ) → all_hex l ≡ list_all is_ascii_hexdigit l
unfolding all_hex pick
all_hex_is [] = refl
all_hex_is (c ∷ l) = grind (arith, hex_is c, all_hex_is l)

-- each of hex digits is one
pub hex-each : (s : List ℕ) (i : ℕ) → all_hex s ≡ true → i < length s → nibble (get_or s i 0) < 16
unfolding all_hex pick less
hex-each [] i e h = absurd (omega arith)
hex-each (c ∷ l) zero e h = grind arith
hex-each (c ∷ l) (suc i) e h = grind (arith, hex-each l i)

-- a word of octets that is longer than `-` is hex digits
pub octets-hex : (s : List ℕ) → is_octets s ≡ true → 2 ≤ length s → all_hex s ≡ true
unfolding is_octets pick same said
octets-hex s e h = grind (arith, dash-length s)

-- ---- the octets of two hex digits more
digits-two : (s : List ℕ) (k : ℕ) → is_octets s ≡ true → k < length s / 2 → all_hex s ≡ true
digits-two s k e h = octets-hex s e (omega arith)

pub digit_first : (s : List ℕ) (k : ℕ) → is_octets s ≡ true → k < length s / 2 → nibble (get_or s (2 * k) 0) < 16
digit_first s k e h = hex-each s (2 * k) (digits-two s k e h) (omega arith)

pub digit_second : (s : List ℕ) (k : ℕ) → is_octets s ≡ true → k < length s / 2 → nibble (get_or s (2 * k + 1) 0) < 16
digit_second s k e h = hex-each s (2 * k + 1) (digits-two s k e h) (omega arith)

octets-more : (s : List ℕ) (k : ℕ) → k < length s / 2
    → octets (drop (2 * k) s)
    ≡ (16 * nibble (get_or s (2 * k) 0) + nibble (get_or s (2 * k + 1) 0)) ∷ octets (drop (2 * (k + 1)) s)
unfolding octets
octets-more s k h =
    rw (left-cons s (2 * k) (omega arith), left-cons s (2 * k + 1) (omega arith), two-on k)
  where
    two-on : (n : ℕ) → 2 * n + 1 + 1 ≡ 2 * (n + 1)
    two-on n = omega arith

octets-few : (l : List ℕ) → length l ≤ 1 → octets l ≡ []
unfolding octets
octets-few [] g = refl
octets-few (a ∷ []) g = refl
octets-few (a ∷ (b ∷ l)) g = absurd (omega arith)

-- ---- one octet more laid
laid-set : (l : List ℕ) (i x : ℕ) (u : List ℕ) → i < length l → laid (set l i x) (i + 1) u ≡ laid l i (x ∷ u)
laid-set l i x u h =
    laid-behind l (set l i x) i (i + 1) (x ∷ []) u (omega arith) refl (laid-sets l i (x ∷ []) (omega arith))

pub octet_laid : (l s : List ℕ) (k x : ℕ) → k < length s / 2 → k < length l
    → x ≡ 16 * nibble (get_or s (2 * k) 0) + nibble (get_or s (2 * k + 1) 0)
    → laid (set l k x) (k + 1) (octets (drop (2 * (k + 1)) s)) ≡ laid l k (octets (drop (2 * k) s))
octet_laid l s k x h n e = laid-set l k x _ n ∙ rw (e, ← octets-more s k h) refl

pub octets_laid : (l s : List ℕ) (k : ℕ) → length s / 2 ≤ k → laid l k (octets (drop (2 * k) s)) ≡ l
octets_laid l s k h = rw (octets-few (drop (2 * k) s) (simp length-drop (omega arith))) (laid_nil l k)

-- ---- the hex digits of an octet more
laid-two : (l : List ℕ) (i x y : ℕ) (u : List ℕ) → i + 2 ≤ length l
    → laid (set (set l i x) (i + 1) y) (i + 2) u ≡ laid l i (x ∷ (y ∷ u))
laid-two l i x y u h =
    let e : length (set l i x) ≡ length l = length-set l i x in
    rw (one_on i) at (laid-set (set l i x) (i + 1) y u (omega arith)) ∙ laid-set l i x (y ∷ u) (omega arith)
  where
    one_on : (n : ℕ) → n + 1 + 1 ≡ n + 2
    one_on n = omega arith

digits-more : (x : List ℕ) (i : ℕ) → i < length x
    → hex_of (drop i x) ≡ glyph (get_or x i 0 / 16) ∷ (glyph (get_or x i 0 % 16) ∷ hex_of (drop (i + 1) x))
unfolding hex_of
digits-more x i h = rw (left-cons x i h)

pub digits_laid : (l x : List ℕ) (at i a b : ℕ) → i < length x → at + 2 * length x ≤ length l
    → a ≡ glyph (get_or x i 0 / 16) → b ≡ glyph (get_or x i 0 % 16)
    → laid (set (set l (at + 2 * i) a) (at + 2 * i + 1) b) (at + 2 * (i + 1)) (hex_of (drop (i + 1) x))
    ≡ laid l (at + 2 * i) (hex_of (drop i x))
digits_laid l x at i a b h n e f =
    let g : at + 2 * (i + 1) ≡ at + 2 * i + 2 = omega arith in
    rw g (laid-two l (at + 2 * i) a b _ (omega arith) ∙ rw (e, f, ← digits-more x i h) refl)

digits-length : (x : List ℕ) → length (hex_of x) ≡ 2 * length x
unfolding hex_of
digits-length [] = refl
digits-length (c ∷ l) = omega (arith, digits-length l)

digits-none : (x : List ℕ) (i : ℕ) → length x ≤ i → hex_of (drop i x) ≡ []
unfolding hex_of
digits-none x i h = rw (drop_of_length-le x h)

-- all of them
pub digits_lays : (l m x : List ℕ) (at i j : ℕ) → length x ≤ i
    → laid m j (hex_of (drop i x)) ≡ laid l at (hex_of x)
    → Lays l at (hex_of x) (2 * length x) (at + 2 * length x) m
digits_lays l m x at i j h e =
    record {
      place = omega (arith, digits-length x);
      left = sym (laid_nil m j) ∙ rw (digits-none x i h) at e;
      near = omega (arith, digits-length x);
    }

-- what a loop that lays octets, or hex digits, does
pub ruleset octets_steps = (digit_first, digit_second, octet_laid, octets_laid)

pub ruleset digits_steps = (digits_laid, digits_lays)
