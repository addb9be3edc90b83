-- A body inside a string: what the reader says of the octets before it, the body b, its FCS c and the end e.
-- SD1, SD2 and SD3 differ only in the octets before. Assumes nothing.
use Prim.Native.Nat.{ℕ, ◌+◌, ◌-◌, ◌<◌, ◌≤◌}
use mathlib.Core.Bool.{true, false}
use mathlib.Core.List.{List, [], ◌∷◌, ◌++◌}
use mathlib.Core.Path.{◌≡◌, refl, sym, ◌∙◌, ap}
use native.Mathlib.Nat.{add_assoc}
use native.Mathlib.Decide.{ℕ_discrete}
use native.Mathlib.Omega.{arith}
use lib.ListN.{length, drop, length-append, length-drop, get_or-append}
use lib.Seq.{take-append_seam, drop-append_seam, take_at, drop-append-add, drop-append-le, get_or-append-add}
use lib.Seq.{get_or-append_seam}
use Rattle.choice.specs.Choice.{pick, same}
use Rattle.choice.proofs.Rules.{same_true, same_false, pick_true, pick-false, if-same, unless-same, unless-less}
use Rattle.choice.proofs.Rules.{asked-true, asked-false}
use Rattle.frame.specs.declared.Part.{Part}
use Rattle.frame.specs.declared.Fields.TheVariants.{Token, Short, Frame}
use Rattle.frame.specs.Reading.{Refused, Read}
use Rattle.frame.specs.Format.{SD1, SD2, SD3, SD4, SC, ED, fcs, closing, sd1, sd2, framed}
use Rattle.frame.specs.Reading.{octet, part, data_at, head_of, body_refusal, answer, body_answer, read_body, mismeasured}
use Rattle.frame.specs.Reading.{read_sd2, plain, read_token, read_short, read, shown}
use Rattle.frame_laws.proofs.Body.{Sound, data-within}

-- where the data of a body lie that begins at a place
abbrev pub data_part : List ℕ → ℕ → Part
data_part b start = record { start = start + data_at b; count = length b - data_at b }

module _ (pre b : List ℕ) where
  pub octet-body : (end : List ℕ) (i : ℕ) → i < length b → octet (pre ++ (b ++ end)) (length pre + i) ≡ octet b i
  octet-body end i h = get_or-append-add pre (b ++ end) i 0 ∙ get_or-append b end 0 i h

  octet-fcs : (c : ℕ) (end : List ℕ) → octet (pre ++ (b ++ c ∷ end)) (length pre + length b) ≡ c
  octet-fcs c end = get_or-append-add pre (b ++ c ∷ end) (length b) 0 ∙ get_or-append_seam b c end 0

  octet-end : (c e : ℕ) → octet (pre ++ (b ++ c ∷ (e ∷ []))) (length pre + length b + 1) ≡ e
  octet-end c e =
      rw add_assoc (get_or-append-add pre (b ++ c ∷ (e ∷ [])) (length b + 1) 0 ∙ get_or-append-add b (c ∷ (e ∷ [])) 1 0)

  part_body : (end : List ℕ) → part (pre ++ (b ++ end)) (length pre) (length b) ≡ b
  part_body end = rw (drop-append_seam, take-append_seam)

  length-parts : (c e : ℕ) → length (pre ++ (b ++ c ∷ (e ∷ []))) ≡ length pre + length b + 2
  length-parts c e = simp length-append (omega arith)

  -- the data of the body
  pub shown-body : (end : List ℕ) → data_at b ≤ length b
      → shown (pre ++ (b ++ end)) (data_part b (length pre)) ≡ drop (data_at b) b
  unfolding shown
  shown-body end h =
      rw
      (drop-append-add pre (b ++ end) (data_at b), drop-append-le (data_at b) b end h)
      (take_at (drop (data_at b) b) end _ (length-drop (data_at b) b))

  -- 6, 7 and then what the body alone tells
  pub read-parts : (c e : ℕ)
      → read_body (pre ++ (b ++ c ∷ (e ∷ []))) (length pre) (length b)
      ≡ pick (same e ED) (pick (same c (fcs b)) (body_answer b (length pre)) (Refused 7)) (Refused 6)
  unfolding read_body
  read-parts c e =
      pick_true _ _ (same_true (length-parts c e)) ∙ rw (octet-end c e, octet-fcs c (e ∷ []), part_body (c ∷ (e ∷ [])))

  pub read-body : body_refusal b ≡ 0
      → read_body (pre ++ (b ++ closing b)) (length pre) (length b)
      ≡ Read (Frame (head_of b)) (data_part b (length pre))
  unfolding closing body_answer answer
  read-body h =
      read-parts (fcs b) ED
      ∙ (pick_true _ _ (same_true refl) ∙ (pick_true _ _ (same_true refl) ∙ pick_true _ _ (same_true h)))

-- ---- by the start octet
pub read-sd1 : (l : List ℕ) → read (SD1 ∷ l) ≡ read_body (SD1 ∷ l) 1 3
unfolding read
read-sd1 l = sym (unless-same _ (omega arith) (if-same _ refl refl))

read-sd2 : (l : List ℕ) → read (SD2 ∷ l) ≡ read_sd2 (SD2 ∷ l)
unfolding read
read-sd2 l = sym (unless-same _ (omega arith) (unless-same _ (omega arith) (if-same _ refl refl)))

measured : (n : ℕ) → 4 ≤ n → n ≤ 249 → mismeasured n n SD2 ≡ false
unfolding mismeasured
measured n least most =
    sym (unless-less _ least (unless-less _ most (if-same _ refl (if-same _ refl refl))))

pub read-measured : (n : ℕ) (l : List ℕ) → 4 ≤ n → n ≤ 249
    → read (SD2 ∷ (n ∷ (n ∷ (SD2 ∷ l)))) ≡ read_body (SD2 ∷ (n ∷ (n ∷ (SD2 ∷ l)))) 4 n
unfolding read_sd2
read-measured n l least most =
    read-sd2 _
    ∙ sym (unless-less _ (omega arith) (asked-false _ (sym (measured n least most)) refl refl))

pub read-mismeasured : (le repeat fourth : ℕ) (l : List ℕ) → mismeasured le repeat fourth ≡ true
    → read (SD2 ∷ (le ∷ (repeat ∷ (fourth ∷ l)))) ≡ Refused 4
unfolding read_sd2
read-mismeasured le repeat fourth l h =
    read-sd2 _ ∙ sym (unless-less _ (omega arith) (asked-true _ (sym h) refl refl))

pub read-sd3 : (l : List ℕ) → read (SD3 ∷ l) ≡ read_body (SD3 ∷ l) 1 11
unfolding read
read-sd3 l =
    sym (unless-same _ (omega arith) (unless-same _ (omega arith) (unless-same _ (omega arith) (if-same _ refl refl))))

pub read-token : (d a : ℕ) → d ≤ 126 → a ≤ 126
    → read (SD4 ∷ (d ∷ (a ∷ []))) ≡ plain (Token (record { 0 = d }) (record { 0 = a }))
unfolding read read_token
read-token d a hd ha =
    sym
    (unless-same _ (omega arith)
    (unless-same _ (omega arith)
    (unless-same _ (omega arith)
    (unless-same _ (omega arith)
    (if-same _ refl
    (if-same _ refl
    (unless-less _ hd
    (unless-less _ ha refl))))))))

pub read-short : read (SC ∷ []) ≡ plain Short
unfolding read read_short pick same
read-short = refl

-- ---- as written
pub framed-three : (b : List ℕ) → length b ≡ 3 → framed b ≡ sd1 b
unfolding framed
framed-three b h = pick_true _ _ (same_true h)

pub framed-more : (b : List ℕ) → 4 ≤ length b → framed b ≡ sd2 b
unfolding framed
framed-more b h = pick-false _ _ (same_false (omega arith))

-- the string s reads as the head and the data of the body b
abbrev pub Reads : List ℕ → List ℕ → Type 0
Reads s b = (p : Part) × (read s ≡ Read (Frame (head_of b)) p) × (shown s p ≡ drop (data_at b) b)

reads-sd1 : (b : List ℕ) → Sound b → length b ≡ 3 → Reads (sd1 b) b
unfolding sd1
reads-sd1 b w h = (
  data_part b 1,
  read-sd1 _ ∙ (ap (read_body (sd1 b) 1) (sym h) ∙ read-body (SD1 ∷ []) b w.accepted),
  shown-body (SD1 ∷ []) b _ (data-within b w),
)

reads-sd2 : (b : List ℕ) → Sound b → 4 ≤ length b → Reads (sd2 b) b
unfolding sd2
reads-sd2 b w h =
    let pre = SD2 ∷ (length b ∷ (length b ∷ (SD2 ∷ []))) in (
      data_part b 4,
      read-measured (length b) _ h w.most ∙ read-body pre b w.accepted,
      shown-body pre b _ (data-within b w),
    )

-- what the writer makes of a body that the reader accepts
pub reads-framed : (b : List ℕ) → Sound b → Reads (framed b) b
reads-framed b w = by (ℕ_discrete (length b) 3)
  where
    by : Dec (length b ≡ 3) → Reads (framed b) b
    by (yes h) = rw (framed-three b h) (reads-sd1 b w h)
    by (no h) =
        let more : 4 ≤ length b = omega (arith, w.least) in
        rw (framed-more b more) (reads-sd2 b w more)
