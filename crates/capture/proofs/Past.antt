-- What the lister may let go: octets past the longest capture only make it long. Assumes nothing.
use Prim.Native.Nat.{ℕ, zero, suc, ◌+◌, ◌*◌, ◌<◌, ◌≤◌}
use mathlib.Core.Bool.{Bool, true, false}
use mathlib.Core.List.{List, [], ◌++◌}
use mathlib.Core.Path.{◌≡◌, refl, sym, ap, ◌∙◌}
use native.Mathlib.Omega.{arith}
use lib.ListN.{length, take, drop, length-append, length-drop, take-append-drop, get_or-append}
use lib.Seq.{take_all, take-append-le, drop-append-le, length-take-le}
use Rattle.std.proofs.Common.{append-nil}
use Rattle.choice.specs.Choice.{less}
use Rattle.choice.proofs.Rules.{pick_true, pick-false, less-true, less-false, true-less, false-less}
use Rattle.frame.specs.Reading.{octet, part}
use Rattle.frame_laws.specs.Terms.{Octets}
use Rattle.capture.specs.Listing.{count_of, length_of, bodies_at, last, lines, LONGEST, listing}
use Rattle.capture.proofs.Numbers.{octets-take}

-- ---- what stands within the first of two strings in a row
octet-first : (s t : List ℕ) (i : ℕ) → i < length s → octet (s ++ t) i ≡ octet s i
octet-first s t i h = get_or-append s t 0 i h

part-first : (s t : List ℕ) (at n : ℕ) → at + n ≤ length s → part (s ++ t) at n ≡ part s at n
part-first s t at n h =
    rw (drop-append-le at s t (omega arith)) (take-append-le n (drop at s) t (simp length-drop (omega arith)))

-- the lines of bodies that all fit the first, and leave an octet of it
lines-first : (s t : List ℕ) → Octets s → (i left at : ℕ) → 5 * (i + left) + 2 ≤ length s
    → at + 255 * left < length s
    → lines (s ++ t) i left at ≡ lines s i left at
unfolding lines last length_of
lines-first s t x i zero at f h =
    pick_true _ _ (less-true (simp length-append (omega arith))) ∙ sym (pick_true _ _ (less-true (omega arith)))
lines-first s t x i (suc left) at f h =
    let n : ℕ = length_of s i in
    let e : octet (s ++ t) (5 * i + 6) ≡ n = octet-first s t (5 * i + 6) (omega arith) in
    let m : n < 256 = x.below (5 * i + 6) in
    rw e
    (pick-false _ _ (less-false (simp length-append (omega (arith, m))))
    ∙ rw (
      part-first s t at n (omega (arith, m)),
      lines-first s t x (i + 1) left (at + n) (omega arith) (omega (arith, m)),
    ) (sym (pick-false _ _ (less-false (omega (arith, m))))))

count-first : (s t : List ℕ) → 2 ≤ length s → count_of (s ++ t) ≡ count_of s
unfolding count_of
count-first s t h = rw (octet-first s t 0 (omega arith), octet-first s t 1 (omega arith))

-- ---- octets behind so many change nothing
pub listing-first : (s t : List ℕ) → Octets s → LONGEST ≤ length s → listing (s ++ t) ≡ listing s
unfolding listing bodies_at
listing-first s t x h = counted (less 4096 (count_of s)) refl
  where
    counted : (b : Bool) → less 4096 (count_of s) ≡ b → listing (s ++ t) ≡ listing s
    counted true e =
        rw (count-first s t (omega arith), e)
        (pick-false _ _ (less-false (simp length-append (omega arith))) ∙ pick_true _ _ refl
        ∙ sym (pick-false _ _ (less-false (omega arith)) ∙ pick_true _ _ refl))
    counted false e =
        let c : count_of s ≤ 4096 = false-less _ _ e in
        rw (count-first s t (omega arith), e)
        (pick-false _ _ (less-false (simp length-append (omega arith))) ∙ pick-false _ _ refl
        ∙ pick-false _ _ (less-false (simp length-append (omega (arith, c))))
        ∙ lines-first s t x 0 (count_of s) (5 * count_of s + 2) (omega (arith, c)) (omega (arith, c))
        ∙ sym
        (pick-false _ _ (less-false (omega arith)) ∙ pick-false _ _ refl
        ∙ pick-false _ _ (less-false (omega (arith, c)))))

-- so the listing of the first LONGEST octets is the listing of all
pub listing-cut : (s : List ℕ) → Octets s → listing (take LONGEST s) ≡ listing s
listing-cut s x = by_length (less (length s) LONGEST) refl
  where
    by_length : (b : Bool) → less (length s) LONGEST ≡ b → listing (take LONGEST s) ≡ listing s
    by_length true e = ap listing (take_all LONGEST s (omega (arith, true-less _ _ e)))
    by_length false e =
        sym (listing-first (take LONGEST s) (drop LONGEST s) (octets-take LONGEST s x)
        (omega (arith, length-take-le LONGEST s (false-less _ _ e))))
        ∙ ap listing (take-append-drop LONGEST s)

-- nor do octets behind a string that is so long: what a buffer of LONGEST keeps has the listing of all
pub listing-kept : (s t : List ℕ) → Octets s → (length s < LONGEST → t ≡ []) → listing s ≡ listing (s ++ t)
listing-kept s t x e = by_length (less (length s) LONGEST) refl
  where
    by_length : (b : Bool) → less (length s) LONGEST ≡ b → listing s ≡ listing (s ++ t)
    by_length true f = ap listing (sym (append-nil s) ∙ ap (λ r. s ++ r) (sym (e (true-less _ _ f))))
    by_length false f = sym (listing-first s t x (false-less _ _ f))
