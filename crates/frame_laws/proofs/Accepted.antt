-- What an accepted string is: by form, its octets, the fields that it reads as, and the data that it shows.
-- Assumes nothing.
use Prim.Native.Nat.{ℕ, suc, ◌+◌, ◌<◌, ◌≤◌}
use mathlib.Core.List.{List, [], ◌∷◌, ◌++◌}
use mathlib.Core.Path.{◌≡◌, refl, sym, ◌∙◌, ap}
use native.Mathlib.Numerals.{add-one}
use native.Mathlib.Omega.{arith}
use lib.ListN.{length, take, drop, length-take, length-drop, take-append-drop, drop_of_length-le}
use lib.Seq.{take_all, take-suc, drop-cons, drop-drop, length-take-le}
use Rattle.choice.proofs.Rules.{true_same, false_same, false-less, is_said, unless-less}
use Rattle.frame.specs.declared.Address.{Address}
use Rattle.frame.specs.declared.Part.{Part}
use Rattle.frame.specs.declared.Fields.{Fields}
use Rattle.frame.specs.declared.Fields.TheVariants.{Token, Short, Frame}
use Rattle.frame.specs.Reading.{Read}
use Rattle.frame.specs.Format.{SD1, SD2, SD3, SD4, SC, closing, sd1, sd2, sd3, body, octets, unwritable}
use Rattle.frame.specs.Format.{unwritable_token}
use Rattle.frame.specs.Reading.{octet, part, data_at, head_of, answer, body_answer, read_body, mismeasured, read_sd2}
use Rattle.frame.specs.Reading.{plain, read_token, read_short, read, shown}
use Rattle.frame_laws.specs.Terms.{Octets, carried}
use Rattle.frame_laws.proofs.Cases.{taken, left, either_way, true-is-false, refused-is-read}
use Rattle.frame_laws.proofs.Body.{Sound, sound, data-within, writable-read, body-read}
use Rattle.frame_laws.proofs.Framed.{shown-body, octet-body, framed-three, framed-more}

-- the string, the fields that it reads as, and the data that it shows
pub data Accepted : List ℕ → Fields → List ℕ → Type 0 where
  token : (d a : Address) → d.0 ≤ 126 → a.0 ≤ 126 → Accepted (SD4 ∷ (d.0 ∷ (a.0 ∷ []))) (Token d a) []
  short : Accepted (SC ∷ []) Short []
  in-SD1 : (b : List ℕ) → Sound b → length b ≡ 3 → Accepted (sd1 b) (Frame (head_of b)) (drop (data_at b) b)
  in-SD2 : (b : List ℕ) → Sound b → 4 ≤ length b → Accepted (sd2 b) (Frame (head_of b)) (drop (data_at b) b)
  in-SD3 : (b : List ℕ) → Sound b → length b ≡ 11 → Accepted (sd3 b) (Frame (head_of b)) (drop (data_at b) b)

-- along equal strings, fields and data
moved : {s t : List ℕ} {f g : Fields} {x y : List ℕ} → s ≡ t → f ≡ g → x ≡ y → Accepted s f x → Accepted t g y
moved p q r a = rw (← p, ← q, ← r) a

-- ---- a string that ends in a body and its closing
last-two : (s : List ℕ) (i : ℕ) → length s ≡ i + 2 → drop i s ≡ octet s i ∷ (octet s (i + 1) ∷ [])
last-two s i h =
    drop-cons s i 0 (omega arith)
    ∙ rw (add-one i, drop-cons s (suc i) 0 (omega arith), drop_of_length-le s {i = suc (suc i)} (omega arith))

split_parts : (s : List ℕ) (start n : ℕ) → length s ≡ start + n + 2
    → take start s ++ (part s start n ++ octet s (start + n) ∷ (octet s (start + n + 1) ∷ [])) ≡ s
split_parts s start n h =
    rw
    (← last-two s (start + n) h, ← drop-drop n start s, take-append-drop n (drop start s))
    (take-append-drop start s)

-- what `read_body` passes: the n octets from a place are a body, and the string ends in its closing
record Enclosed (s : List ℕ) (start n : ℕ) (f : Fields) (x : List ℕ) : Type 0 where
  size : length (part s start n) ≡ n
  whole : take start s ++ (part s start n ++ closing (part s start n)) ≡ s
  sound : Sound (part s start n)
  fields : Frame (head_of (part s start n)) ≡ f
  shows : drop (data_at (part s start n)) (part s start n) ≡ x

enclosed : (s : List ℕ) (start n : ℕ) (f : Fields) (p : Part) → 3 ≤ n → n ≤ 249 → read_body s start n ≡ Read f p
    → Enclosed s start n f (shown s p)
unfolding read_body body_answer answer closing
enclosed s start n f p least most e =
    let e5 = taken _ _ _ refused-is-read e in
    let e6 = taken _ _ _ refused-is-read e5.1 in
    let e7 = taken _ _ _ refused-is-read e6.1 in
    let e8 = taken _ _ _ refused-is-read e7.1 in
    let long : length s ≡ start + n + 2 = true_same _ _ e5.0 in
    let end = true_same _ _ e6.0 in
    let checked = true_same _ _ e7.0 in
    let b = part s start n in
    let size : length b ≡ n = simp (length-take, length-drop) (omega arith) in
    let w = sound b (omega arith) (omega arith) (true_same _ _ e8.0) in
    let whole : take start s ++ (b ++ closing b) ≡ s = rw (checked, end) at (split_parts s start n long) in
    let shows = shown-body (take start s) b (closing b) (data-within b w) in
    let placed = length-take-le start s (omega arith) in
    record {
      size = size;
      whole = whole;
      sound = w;
      fields = cc e8.1;
      shows = sym (rw (whole, placed) at shows) ∙ ap (shown s) (cc e8.1);
    }

-- ---- by the start octet
take-three : (s : List ℕ) → 3 ≤ length s → take 3 s ≡ octet s 0 ∷ (octet s 1 ∷ (octet s 2 ∷ []))
take-three s h = rw (take-suc s 2 0 (omega arith), take-suc s 1 0 (omega arith), take-suc s 0 0 (omega arith))

take-four : (s : List ℕ) → 4 ≤ length s → take 4 s ≡ octet s 0 ∷ (octet s 1 ∷ (octet s 2 ∷ (octet s 3 ∷ [])))
take-four s h = rw (take-suc s 3 0 (omega arith), take-three s (omega arith))

SD1-accepted : (s : List ℕ) (f : Fields) (p : Part) → octet s 0 ≡ SD1 → 0 < length s → read_body s 1 3 ≡ Read f p
    → Accepted s f (shown s p)
unfolding sd1
SD1-accepted s f p h l e =
    let b = enclosed s 1 3 f p (omega arith) (omega arith) e in
    moved (rw (take-suc s 0 0 l, h) at b.whole) b.fields b.shows (in-SD1 _ b.sound b.size)

SD2-accepted : (s : List ℕ) (f : Fields) (p : Part) → octet s 0 ≡ SD2 → read_sd2 s ≡ Read f p
    → Accepted s f (shown s p)
unfolding read_sd2 mismeasured sd2
SD2-accepted s f p h e =
    let e3 = left _ _ _ refused-is-read e in
    let e4 = left _ _ _ refused-is-read e3.1 in
    let m1 = left _ _ _ true-is-false (is_said e4.0) in
    let m2 = left _ _ _ true-is-false m1.1 in
    let m3 = taken _ _ _ true-is-false m2.1 in
    let m4 = taken _ _ _ true-is-false m3.1 in
    let repeat = true_same _ _ m3.0 in
    let fourth = true_same _ _ m4.0 in
    let long = false-less _ _ e3.0 in
    let least = false-less _ _ m1.0 in
    let b = enclosed s 4 (octet s 1) f p (omega arith) (false-less _ _ m2.0) e4.1 in
    let n = length (part s 4 (octet s 1)) in
    let start : take 4 s ≡ SD2 ∷ (n ∷ (n ∷ (SD2 ∷ []))) = rw (take-four s long, h, ← repeat, fourth, b.size) in
    moved (rw start at b.whole) b.fields b.shows (in-SD2 _ b.sound (omega (arith, b.size)))

SD3-accepted : (s : List ℕ) (f : Fields) (p : Part) → octet s 0 ≡ SD3 → 0 < length s → read_body s 1 11 ≡ Read f p
    → Accepted s f (shown s p)
unfolding sd3
SD3-accepted s f p h l e =
    let b = enclosed s 1 11 f p (omega arith) (omega arith) e in
    moved (rw (take-suc s 0 0 l, h) at b.whole) b.fields b.shows (in-SD3 _ b.sound b.size)

plain-read : (s : List ℕ) (f g : Fields) (p : Part) → plain g ≡ Read f p → (g ≡ f) × ([] ≡ shown s p)
unfolding plain shown
plain-read s f g p e = let q : ◌≡◌ {A = Part} (record { start = 0; count = 0 }) p = cc in (cc, ap (shown s) q)

token-accepted : (s : List ℕ) (f : Fields) (p : Part) → octet s 0 ≡ SD4 → read_token s ≡ Read f p
    → Accepted s f (shown s p)
unfolding read_token
token-accepted s f p h e =
    let e5 = taken _ _ _ refused-is-read e in
    let e8 = left _ _ _ refused-is-read e5.1 in
    let e9 = left _ _ _ refused-is-read e8.1 in
    let q = plain-read s f _ p e9.1 in
    let long = true_same _ _ e5.0 in
    let whole = take_all 3 s (omega arith) in
    moved (rw (take-three s (omega arith), h) at whole) q.0 q.1
    (token _ _ (false-less _ _ e8.0) (false-less _ _ e9.0))

short-accepted : (s : List ℕ) (f : Fields) (p : Part) → octet s 0 ≡ SC → read_short s ≡ Read f p
    → Accepted s f (shown s p)
unfolding read_short
short-accepted s f p h e =
    let e5 = taken _ _ _ refused-is-read e in
    let q = plain-read s f _ p e5.1 in
    let long = true_same _ _ e5.0 in
    let whole = take_all 1 s (omega arith) in
    moved (rw (take-suc s 0 0 (omega arith), h) at whole) q.0 q.1 short

pub accepted : (s : List ℕ) (f : Fields) (p : Part) → read s ≡ Read f p → Accepted s f (shown s p)
unfolding read
accepted s f p e =
    let e1 = left _ _ _ refused-is-read e in
    let some : 0 < length s = omega (arith, false_same _ _ e1.0) in
    either_way _ _ _ e1.1 (λ h q. SD1-accepted s f p (true_same _ _ h) some q) (λ _ e2.
    either_way _ _ _ e2 (λ h q. SD2-accepted s f p (true_same _ _ h) q) (λ _ e3.
    either_way _ _ _ e3 (λ h q. SD3-accepted s f p (true_same _ _ h) some q) (λ _ e4.
    either_way _ _ _ e4 (λ h q. token-accepted s f p (true_same _ _ h) q) (λ _ e5.
    let e6 = taken _ _ _ refused-is-read e5 in
    short-accepted s f p (true_same _ _ e6.0) e6.1))))

-- ---- what the writer makes of it
pub accepted-writable : {s : List ℕ} {f : Fields} {x : List ℕ} → Accepted s f x → unwritable f x ≡ 0
unfolding unwritable unwritable_token
accepted-writable (token d a hd ha) = sym (unless-less _ hd (unless-less _ ha refl))
accepted-writable short = refl
accepted-writable (in-SD1 b w h) = writable-read b w
accepted-writable (in-SD2 b w h) = writable-read b w
accepted-writable (in-SD3 b w h) = writable-read b w

pub accepted-carried : {s : List ℕ} {f : Fields} {x : List ℕ} → Accepted s f x → carried f x ≡ x
accepted-carried (token d a hd ha) = refl
accepted-carried short = refl
accepted-carried (in-SD1 b w h) = refl
accepted-carried (in-SD2 b w h) = refl
accepted-carried (in-SD3 b w h) = refl

-- a body whose octets are octets is written as it was read
body-again : (pre b : List ℕ) → Sound b → Octets (pre ++ (b ++ closing b)) → body (head_of b) (drop (data_at b) b) ≡ b
body-again pre b w o =
    body-read
    b
    w
    (rw (octet-body pre b (closing b) 0 (omega (arith, w.least))) at (o.below (length pre + 0)))
    (rw (octet-body pre b (closing b) 1 (omega (arith, w.least))) at (o.below (length pre + 1)))

pub accepted-written : {s : List ℕ} {f : Fields} {x : List ℕ} → Accepted s f x → Octets s → (octet s 0 ≡ SD3 → ⊥)
    → octets f x ≡ s
unfolding octets sd1 sd2 sd3
accepted-written (token d a hd ha) o n = refl
accepted-written short o n = refl
accepted-written (in-SD1 b w h) o n = rw (body-again (SD1 ∷ []) b w o) (framed-three b h)
accepted-written (in-SD2 b w h) o n =
    rw (body-again (SD2 ∷ (length b ∷ (length b ∷ (SD2 ∷ [])))) b w o) (framed-more b h)
accepted-written (in-SD3 b w h) o n = absurd (n refl)

-- the body of a frame
abbrev pub body_of : Fields → List ℕ → List ℕ
body_of (Token d a) x = []
body_of Short x = []
body_of (Frame h) x = body h x

-- an SD3 and the SD2 that is written for it have the same body
pub accepted-SD3 : {s : List ℕ} {f : Fields} {x : List ℕ} → Accepted s f x → Octets s → octet s 0 ≡ SD3
    → (s ≡ sd3 (body_of f x)) × (octets f x ≡ sd2 (body_of f x))
unfolding octets sd1 sd2 sd3
accepted-SD3 (token d a hd ha) o n = absurd (omega arith)
accepted-SD3 short o n = absurd (omega arith)
accepted-SD3 (in-SD1 b w h) o n = absurd (omega arith)
accepted-SD3 (in-SD2 b w h) o n = absurd (omega arith)
accepted-SD3 (in-SD3 b w h) o n = rw (body-again (SD3 ∷ []) b w o) (refl, framed-more b (omega arith))
