-- The numbers of a listing: an index is below 4096, every other number below 256, and each number below 10000 reads
-- back from its digits. Assumes nothing.
use Prim.Native.Nat.{ℕ, zero, suc, ◌+◌, ◌-◌, ◌*◌, ◌/◌, ◌%◌, ◌<◌, ◌≤◌}
use mathlib.Core.Bool.{Bool, true, false}
use mathlib.Core.List.{List, [], ◌∷◌, ◌++◌, append_assoc}
use mathlib.Core.Path.{◌≡◌, refl, ap}
use native.Mathlib.Omega.{arith}
use lib.ListN.{length, take, drop, get_or, length-take, length-drop}
use lib.Seq.{get_or-drop}
use Rattle.choice.specs.Choice.{pick, less}
use Rattle.choice.proofs.Rules.{by-pick, pick_true, pick-false, true-less, false-less}
use Rattle.control.specs.Control.{fc}
use Rattle.frame.specs.declared.Fields.TheVariants.{Token, Short, Frame}
use Rattle.frame.specs.Reading.{Answer}
use Rattle.frame.specs.Reading.{Refused, Read}
use Rattle.frame.specs.Reading.{part, head_of, body_refusal, answer, body_answer, read_body, read_sd2, plain}
use Rattle.frame.specs.Reading.{read_token, read_short, read}
use Rattle.frame_laws.specs.Terms.{Octets}
use Rattle.capture.specs.Line.{digit, decimal, space, newline, bad, token, short, kind, addresses, told, line}
use Rattle.capture.specs.Listing.{end, end_short, end_long, end_count, length_of, bodies_at, count_of, last, lines}
use Rattle.capture.specs.Listing.{listing}

-- ---- digits read as a number, behind a number read so far
unfoldable pub value : ℕ → List ℕ → ℕ
value n [] = n
value n (c ∷ l) = value (10 * n + (c - 48)) l

pub decimal-back : (n : ℕ) → n < 10000 → value 0 (decimal n) ≡ n
unfolding value decimal digit
decimal-back n h = one (less n 10) (less n 100) (less n 1000) refl refl refl
  where
    one : (a b c : Bool) → less n 10 ≡ a → less n 100 ≡ b → less n 1000 ≡ c → value 0 (decimal n) ≡ n
    one true b c e f g = rw (e, pick_true) (omega (arith, true-less n 10 e))
    one false true c e f g = rw (e, pick-false, f, pick_true) (omega (arith, true-less n 100 f))
    one false false true e f g = rw (e, pick-false, f, pick-false, g, pick_true) (omega (arith, true-less n 1000 g))
    one false false false e f g =
        let p : n / 10 ≡ 10 * (n / 100) + n / 10 % 10 = omega arith in
        let q : n / 100 ≡ 10 * (n / 1000) + n / 100 % 10 = omega arith in
        let r : n / 1000 % 10 ≡ n / 1000 = omega arith in
        rw (e, pick-false, f, pick-false, g, pick-false) (omega (arith, p, q, r))

-- ---- the numbers of a line behind its index, between the line's word and its end
unfoldable pub numbers : Answer → List ℕ
numbers (Refused n) = n ∷ []
numbers (Read (Token d s) p) = d.0 ∷ (s.0 ∷ [])
numbers (Read Short p) = []
numbers (Read (Frame h) p) = h.destination.0 ∷ (h.source.0 ∷ (fc h.control % 16 ∷ (p.count ∷ [])))

unfoldable pub word : Answer → List ℕ
word (Refused n) = bad
word (Read (Token d s) p) = token
word (Read Short p) = take 6 short
word (Read (Frame h) p) = kind h.control

-- in decimal, a space between two
unfoldable pub spaced : List ℕ → List ℕ
spaced [] = []
spaced (n ∷ []) = decimal n
spaced (n ∷ (m ∷ l)) = decimal n ++ (space ++ spaced (m ∷ l))

pub told-numbers : (a : Answer) → told a ≡ word a ++ (spaced (numbers a) ++ newline)
unfolding told word numbers spaced addresses
told-numbers (Refused n) = refl
told-numbers (Read (Token d s) p) = refl
told-numbers (Read Short p) = refl
told-numbers (Read (Frame h) p) =
    ap (λ (l : List ℕ). kind h.control ++ l) (simp append_assoc refl)

-- ---- of octets
octets-none : Octets []
octets-none = record { below = λ i. omega arith }

octets-more : {n : ℕ} {l : List ℕ} → n < 256 → Octets l → Octets (n ∷ l)
octets-more {n} {l} h x = record { below = at }
  where
    at : (i : ℕ) → get_or (n ∷ l) i 0 < 256
    at zero = h
    at (suc i) = x.below i

pub octets-take : (n : ℕ) (l : List ℕ) → Octets l → Octets (take n l)
octets-take zero l x = octets-none
octets-take (suc n) [] x = octets-none
octets-take (suc n) (c ∷ l) x =
    octets-more (x.below 0) (octets-take n l (record { below = λ i. x.below (suc i) }))

octets-part : (s : List ℕ) (at n : ℕ) → Octets s → Octets (part s at n)
octets-part s at n x =
    octets-take n (drop at s) (record { below = λ i. rw (get_or-drop at s i 0) (x.below (at + i)) })

-- ---- the numbers of a line are below 256
refused-below : (n : ℕ) → n < 256 → Octets (numbers (Refused n))
unfolding numbers
refused-below n h = octets-more h octets-none

body-refusal : (b : List ℕ) → body_refusal b < 256
unfolding body_refusal
body-refusal b =
    by-pick (λ (n : ℕ). n < 256) _ (omega arith)
    (by-pick (λ (n : ℕ). n < 256) _ (omega arith)
    (by-pick (λ (n : ℕ). n < 256) _
    (by-pick (λ (n : ℕ). n < 256) _ (omega arith)
    (by-pick (λ (n : ℕ). n < 256) _ (omega arith)
    (by-pick (λ (n : ℕ). n < 256) _ (omega arith) (omega arith)))) (omega arith)))

abbrev Small : Answer → Type 0
Small a = Octets (numbers a)

body-small : (s : List ℕ) (start n : ℕ) → length s ≤ 255 → Small (read_body s start n)
unfolding read_body body_answer answer numbers head_of
body-small s start n h =
    let b : List ℕ = part s start n in
    let k : length b ≤ 255 = omega (arith, length-take n (drop start s), length-drop start s) in
    by-pick Small _
    (by-pick Small _
    (by-pick Small _
    (by-pick Small _
    (octets-more (omega arith)
    (octets-more (omega arith) (octets-more (omega arith) (octets-more (omega (arith, k)) octets-none))))
    (refused-below (body_refusal b) (body-refusal b))) (refused-below 7 (omega arith)))
    (refused-below 6 (omega arith)))
    (refused-below 5 (omega arith))

sd2-small : (s : List ℕ) → length s ≤ 255 → Small (read_sd2 s)
unfolding read_sd2
sd2-small s h =
    by-pick Small _ (refused-below 3 (omega arith))
    (by-pick Small _ (refused-below 4 (omega arith)) (body-small s 4 _ h))

token-small : (s : List ℕ) → Octets s → Small (read_token s)
unfolding read_token plain numbers
token-small s x =
    by-pick Small _
    (by-pick Small _ (refused-below 8 (omega arith))
    (by-pick Small _ (refused-below 8 (omega arith))
    (octets-more (x.below 1) (octets-more (x.below 2) octets-none)))) (refused-below 5 (omega arith))

short-small : (s : List ℕ) → Small (read_short s)
unfolding read_short plain numbers
short-small s = by-pick Small _ octets-none (refused-below 5 (omega arith))

pub numbers-below : (b : List ℕ) → Octets b → length b ≤ 255 → Octets (numbers (read b))
unfolding read
numbers-below b x h =
    by-pick Small _ (refused-below 1 (omega arith))
    (by-pick Small _ (body-small b 1 3 h)
    (by-pick Small _ (sd2-small b h)
    (by-pick Small _ (body-small b 1 11 h)
    (by-pick Small _ (token-small b x) (by-pick Small _ (short-small b) (refused-below 2 (omega arith)))))))

-- ---- a listing is lines, and an end that has no number
-- the numbers of a line: how great they are, and that each reads back
pub record Back (i : ℕ) (b : List ℕ) : Type 0 where
  pub few : i < 4096
  pub below : Octets (numbers (read b))
  pub index : value 0 (decimal i) ≡ i
  pub others : (k : ℕ) → let n : ℕ = get_or (numbers (read b)) k 0 in value 0 (decimal n) ≡ n

pub data Listed : List ℕ → Type 0 where
  at-end : Listed end
  at-short : Listed end_short
  at_long : Listed end_long
  at_count : Listed end_count
  body : (i : ℕ) (b t : List ℕ) → Back i b → Listed t → Listed (line i b ++ t)

line-back : (i : ℕ) (b : List ℕ) → i < 4096 → Octets b → length b ≤ 255 → Back i b
line-back i b h x n =
    let y = numbers-below b x n in
    record {
      few = h;
      below = y;
      index = decimal-back i (omega arith);
      others = λ k. decimal-back (get_or (numbers (read b)) k 0) (omega (arith, y.below k));
    }

lines-back : (s : List ℕ) → Octets s → (i left at : ℕ) → i + left ≤ 4096 → Listed (lines s i left at)
unfolding lines last length_of
lines-back s x i zero at h = by-pick Listed _ at_long at-end
lines-back s x i (suc left) at h =
    let n : ℕ = length_of s i in
    by-pick Listed _ at-short
    (body i (part s at n) _
    (line-back i (part s at n) (omega arith) (octets-part s at n x)
    (omega (arith, length-take n (drop at s), x.below (5 * i + 6))))
    (lines-back s x (i + 1) left (at + n) (omega arith)))

-- every number that a listing of octets prints is that small, and reads back from its digits
pub listing-back : (s : List ℕ) → Octets s → Listed (listing s)
unfolding listing
listing-back s x = by-pick Listed _ at-short (counted (less 4096 (count_of s)) refl)
  where
    rest : List ℕ
    rest = pick (less (length s) (bodies_at (count_of s))) end_short (lines s 0 (count_of s) (bodies_at (count_of s)))

    counted : (b : Bool) → less 4096 (count_of s) ≡ b → Listed (pick (less 4096 (count_of s)) end_count rest)
    counted true e = rw (pick_true end_count rest e) at_count
    counted false e =
        rw (pick-false end_count rest e)
        (by-pick Listed _ at-short
        (lines-back s x 0 (count_of s) (bodies_at (count_of s)) (omega (arith, false-less _ _ e))))
