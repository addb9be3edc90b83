-- The walk over a capture's bodies: what has been laid, with the lines still to come, is the lines of the whole. A turn
-- lays one line more; the walk ends at a cut body or behind the last. Assumes nothing.
use Prim.Native.Nat.{ℕ, suc, ◌+◌, ◌-◌, ◌*◌, ◌≤◌, ◌<◌}
use mathlib.Core.List.{List, [], ◌++◌, append_assoc}
use mathlib.Core.Path.{◌≡◌, refl, sym, ap, ◌∙◌}
use native.Mathlib.Omega.{arith}
use native.Mathlib.Nat.{zero-add}
use lib.ListN.{length, take, drop}
use Rattle.std.proofs.lemmas.List.{take_at}
use Rattle.choice.proofs.Rules.{unless-less, less-true, less-false, pick_true, pick-false}
use Rattle.frame.specs.Reading.{part}
use Rattle.laid.specs.Laid.{Lays}
use Rattle.laid.proofs.Laws.{laid_nil, laid-start, length-laid, lays-then, lays-within}
use Rattle.capture.specs.Line.{line}
use Rattle.capture.specs.Listing.{ROOM, end_short, length_of, bodies_at, last, lines, listing, listed, left}

-- the lines of a whole capture
abbrev pub whole : List ℕ → ℕ → List ℕ
whole s count = lines s 0 count (bodies_at count)

-- after i bodies, the next of which begins at a place: text was laid, and with the lines still to come it is the whole
pub record Walked (s : List ℕ) (count : ℕ) (out₀ out : List ℕ) (at i w : ℕ) : Type 0 where
  pub text : List ℕ
  pub laid : Lays out₀ 0 text (34 * i) w out
  pub rest : text ++ lines s i (count - i) at ≡ whole s count
  pub among : i ≤ count
  pub inside : at ≤ length s

-- ---- the lines still to come, one body on
lines_cut : (s : List ℕ) (i left at : ℕ) → length s - at < length_of s i → lines s i (suc left) at ≡ end_short
unfolding lines
lines_cut s i left at h = pick_true end_short _ (less-true h)

lines_more : (s : List ℕ) (i left at : ℕ) → length_of s i ≤ length s - at
    → lines s i (suc left) at ≡ line i (part s at (length_of s i)) ++ lines s (i + 1) left (at + length_of s i)
unfolding lines
lines_more s i left at h = pick-false end_short _ (less-false h)

left-suc : (count i : ℕ) → i < count → count - i ≡ suc (count - (i + 1))
left-suc count i h = omega arith

-- ---- the walk
pub walked_none : (s : List ℕ) (count : ℕ) (out : List ℕ) → bodies_at count ≤ length s
    → Walked s count out out (bodies_at count) 0 0
walked_none s count out h =
    record {
      text = [];
      laid = record { place = omega arith; left = sym (laid_nil out 0); near = omega arith };
      rest = ap (λ (k : ℕ). lines s 0 k (bodies_at count)) (omega arith);
      among = omega arith;
      inside = h;
    }

module _ (s : List ℕ) (count : ℕ) (out₀ out : List ℕ) (at i w : ℕ) (room : 34 * count + 10 ≤ length out₀)
    (x : Walked s count out₀ out at i w) where
  -- the output is as long as it was, and has room for the next line
  pub walked-length : length out ≡ length out₀
  walked-length =
      ap length x.laid.left ∙ length-laid out₀ 0 x.text (omega (arith, x.laid.near, x.among))

  pub walked-room : (b : ℕ) → 34 * i + b ≤ 34 * count + 10 → w + b ≤ length out
  walked-room b h = omega (arith, walked-length, x.laid.place, x.laid.near)

  pub walked_more : (w' : ℕ) (out' : List ℕ) → i < count → length_of s i ≤ length s - at
      → Lays out w (line i (part s at (length_of s i))) 34 w' out'
      → Walked s count out₀ out' (at + length_of s i) (i + 1) w'
  walked_more w' out' h n y =
      let l : List ℕ = line i (part s at (length_of s i)) in
      record {
        text = x.text ++ l;
        laid = lays-within (34 * (i + 1)) (omega arith) (lays-then (omega arith) x.laid y);
        rest =
            append_assoc x.text l _ ∙ ap (λ (r : List ℕ). x.text ++ r)
            (sym (ap (λ (k : ℕ). lines s i k at) (left-suc count i h) ∙ lines_more s i _ at n)) ∙ x.rest;
        among = omega arith;
        inside = omega (arith, x.inside);
      }

  -- the walk's end: what is laid last is all that was to come
  walked_end : (e : List ℕ) (r : ℕ) (out' : List ℕ) → lines s i (count - i) at ≡ e → Lays out w e 10 r out'
      → Lays out₀ 0 (whole s count) (34 * count + 10) r out'
  walked_end e r out' q y =
      rw (← x.rest, q)
      (lays-within (34 * count + 10) (omega (arith, x.among)) (lays-then (omega (arith, x.among)) x.laid y))

  pub walked-cut : (r : ℕ) (out' : List ℕ) → i < count → length s - at < length_of s i → Lays out w end_short 10 r out'
      → Lays out₀ 0 (whole s count) (34 * count + 10) r out'
  walked-cut r out' h n y =
      walked_end end_short r out' (ap (λ (k : ℕ). lines s i k at) (left-suc count i h) ∙ lines_cut s i _ at n) y

  pub walked-last : (r : ℕ) (out' : List ℕ) → count ≤ i → Lays out w (last s at) 10 r out'
      → Lays out₀ 0 (whole s count) (34 * count + 10) r out'
  unfolding lines
  walked-last r out' h y =
      walked_end (last s at) r out' (ap (λ (k : ℕ). lines s i k at) (left-none x.among)) y
    where
      left-none : i ≤ count → count - i ≡ 0
      left-none g = omega arith

-- what is laid at the start of an output with room is the listing: what `list` answers, and leaves
pub listed-laid : (s out e : List ℕ) (b r : ℕ) (m : List ℕ) → ROOM ≤ length out → b ≤ ROOM → e ≡ listing s
    → Lays out 0 e b r m → (r ≡ listed s out) × ((m ≡ left s out) × (r ≤ length m))
unfolding listed left
listed-laid s out e b r m h g q x =
    let k : length m ≡ length out = ap length x.left ∙ length-laid out 0 e (omega (arith, x.near)) in (
      unless-less _ h (x.place ∙ zero-add (length e) ∙ ap length q),
      (
        unless-less _ h (x.left ∙ laid-start out e ∙ ap (λ (u : List ℕ). u ++ drop (length u) out) q),
        omega (arith, x.place, x.near),
      ),
    )

-- so many octets of it as `list` answers are the listing
listed-room : (s out : List ℕ) → ROOM ≤ length out → listed s out ≡ length (listing s)
unfolding listed
listed-room s out h = pick-false 0 (length (listing s)) (less-false h)

left-room : (s out : List ℕ) → ROOM ≤ length out → left s out ≡ listing s ++ drop (length (listing s)) out
unfolding left
left-room s out h = pick-false out (listing s ++ drop (length (listing s)) out) (less-false h)

pub listing-front : (s out : List ℕ) → ROOM ≤ length out → take (listed s out) (left s out) ≡ listing s
listing-front s out h = rw (listed-room s out h, left-room s out h) (take_at (listing s) _ _ refl)
