-- The reader's definition, which goes by form, and the table of the page, which goes by row: test by test the same.
-- Assumes nothing.
use Prim.Native.Nat.{ℕ, ◌+◌, ◌-◌, ◌%◌, ◌<◌, ◌≤◌}
use mathlib.Core.Bool.{Bool, true, false, not, ◌&&◌, ◌||◌, and-true, or-false, or_assoc}
use mathlib.Core.List.{List}
use mathlib.Core.Path.{◌≡◌, refl, sym, ◌∙◌}
use native.Mathlib.Nat.{add-zero}
use native.Mathlib.Omega.{arith}
use lib.Dec.{ltb, leb, eqb}
use lib.ListN.{length, length-take, length-drop}
use lib.Seq.{get_or-take, get_or-drop}
use borrow.Author.Tests.{lt-leb, le-leb, lt-ltb, le-ltb, ne_eqb, ltb-true, ltb-false, leb-true, leb-false, eqb-true}
use borrow.Author.Tests.{eqb-false}
use Rattle.choice.specs.Choice.{pick, less, same, said}
use Rattle.choice.proofs.Rules.{true_same, false-less, is_said}
use Rattle.frame.specs.declared.Part.{Part}
use Rattle.frame.specs.declared.Fields.{Fields}
use Rattle.frame.specs.Reading.{Answer}
use Rattle.frame.specs.Reading.{Refused}
use Rattle.control.specs.Control.{listed}
use Rattle.frame.specs.Format.{SD1, SD2, SD3, SD4, SC, ED, fcs, misdirected}
use Rattle.frame.specs.Reading.{octet, part, extensions, extended, misnamed, body_refusal, answer, body_answer}
use Rattle.frame.specs.Reading.{read_body, mismeasured, read_sd2, plain, read_token, read_short, read, refusal}
use Rattle.frame_laws.specs.Table.{is, framed, addressed, LE, count, first, DA, SA, FC, checked, address}
use Rattle.frame_laws.specs.Table.{announces, destination_at, source_at, missing, over, no_octets, no_start, cut_sd2}
use Rattle.frame_laws.specs.Table.{bad_le, wrong_count, wrong_end, wrong_sum, bad_address, bad_control, bad_extension}
use Rattle.frame_laws.specs.Table.{for_all, table}
use Rattle.frame_laws.proofs.Cases.{left, true-is-false}

-- ---- the reader's tests are made with `pick`, the rows with connectives
if-and : (a b : Bool) → pick a b false ≡ (a && b)
unfolding pick
if-and true b = refl
if-and false b = refl

if-or : (a b : Bool) → pick a true b ≡ (a || b)
unfolding pick
if-or true b = refl
if-or false b = refl

unless-or : (a b : Bool) → pick a b true ≡ (not a || b)
unfolding pick
unless-or true b = refl
unless-or false b = refl

ruleset connectives = (if-and, if-or, unless-or, and-true, or-false, or_assoc)

-- ---- one test of either chain: the reader's b and the row's c
spared : (b : Bool) (n : ℕ) (a : Answer) {c : Bool} {m : ℕ} → c ≡ not b → (b ≡ true → refusal a ≡ m)
    → refusal (pick b a (Refused n)) ≡ pick c n m
unfolding pick refusal
spared true n a e f = rw e (f refl)
spared false n a e f = rw e

given : (b : Bool) (n : ℕ) (a : Answer) {c : Bool} {m : ℕ} → c ≡ b → (b ≡ false → refusal a ≡ m)
    → refusal (pick b (Refused n) a) ≡ pick c n m
unfolding pick refusal
given true n a e f = rw e
given false n a e f = rw e (f refl)

-- a test that no row asks, as those by which the reader tells the forms
parted : (b : Bool) (x y : Answer) {m : ℕ} → (b ≡ true → refusal x ≡ m) → (b ≡ false → refusal y ≡ m)
    → refusal (pick b x y) ≡ m
unfolding pick
parted true x y f g = f refl
parted false x y f g = g refl

answered : (n : ℕ) (f : Fields) (p : Part) → refusal (answer n f p) ≡ n
unfolding answer refusal
answered n f p = parted (same n 0) _ _ (λ h. sym (true_same n 0 h)) (λ _. refl)

-- ---- the table's end, from a row on
abbrev from8 : List ℕ → ℕ
from8 s = pick (bad_address s) 8 (pick (bad_control s) 9 (pick (bad_extension s) 10 (pick (for_all s) 11 0)))

abbrev from5 : List ℕ → ℕ
from5 s = pick (wrong_count s) 5 (pick (wrong_end s) 6 (pick (wrong_sum s) 7 (from8 s)))

abbrev from2 : List ℕ → ℕ
from2 s = pick (no_start s) 2 (pick (cut_sd2 s) 3 (pick (bad_le s) 4 (from5 s)))

-- ---- SD1, SD2, SD3: what the helpers of the table say of a string whose body is the n octets from a place
record Form (s : List ℕ) (start n : ℕ) : Type 0 where
  least : 3 ≤ n
  counted : count s ≡ start + n + 2
  bodied : framed s ≡ true
  placed : first s ≡ start
  brief : is s SD1 ≡ eqb n 3
  other : is s SD4 ≡ false

-- 8 to 11 as the reader asks them and as the rows do
regrouped : (a b c d e f : Bool)
    → ◌≡◌ {A = ℕ}
    (pick a 8 (pick (said b) 8 (pick (said c) (pick (said d) 10 (pick (said e) 10 (pick (said f) 11 0))) 9)))
    (pick (a || b) 8 (pick (not c) 9 (pick (d || e) 10 (pick f 11 0))))
unfolding pick said
regrouped true b c d e f = refl
regrouped false true c d e f = refl
regrouped false false true true e f = refl
regrouped false false true false true f = refl
regrouped false false true false false f = refl
regrouped false false false d e f = refl

-- each row, as a test that the reader asks of the body b
module _ (s : List ℕ) (start n : ℕ) (form : Form s start n) where
  abbrev b : List ℕ
  b = part s start n

  is-count : wrong_count s ≡ not (same (length s) (start + n + 2))
  unfolding wrong_count same
  is-count = rw form.counted

  module _ (long : length s ≡ start + n + 2) where
    is-end : wrong_end s ≡ not (same (octet s (start + n + 1)) ED)
    unfolding wrong_end same
    is-end = let e : length s - 1 ≡ start + n + 1 = omega arith in rw (form.bodied, e)

    before_last : length s - 2 ≡ start + n
    before_last = omega arith

    is_sum : wrong_sum s ≡ not (same (octet s (start + n)) (fcs b))
    unfolding wrong_sum checked same
    is_sum = let e : start + n - start ≡ n = omega arith in rw (form.bodied, before_last, form.placed, e)

    size : length b ≡ n
    size = simp (length-take, length-drop) (omega arith)

    octet-part : (i : ℕ) → i < n → octet s (start + i) ≡ octet b i
    octet-part i h = sym (rw (get_or-take, get_or-drop))

    is-DA : DA s ≡ octet b 0
    unfolding DA
    is-DA = rw form.placed (rw add-zero at (octet-part 0 (omega (arith, form.least))))

    is-SA : SA s ≡ octet b 1
    unfolding SA
    is-SA = rw form.placed (octet-part 1 (omega (arith, form.least)))

    is-FC : FC s ≡ octet b 2
    unfolding FC
    is-FC = rw form.placed (octet-part 2 (omega (arith, form.least)))

    is_address : bad_address s ≡ same (octet b 1 % 128) 127 || extended b
    unfolding bad_address addressed address announces extended less same
    is_address = simp (form.bodied, form.other, form.brief, is-DA, is-SA, size, connectives)

    is_control : bad_control s ≡ not (listed (octet b 2))
    unfolding bad_control
    is_control = rw (form.bodied, is-FC)

    is-named : (a i most : ℕ)
        → announces a && (missing s (start + i) || over s (start + i) most) ≡ misnamed b a i most
    unfolding announces missing over misnamed less
    is-named a i most = simp (size, before_last, connectives) (by (ltb i n) refl)
      where
        by : (t : Bool) → ltb i n ≡ t
            → leb 0x80 a && (leb (start + n) (start + i) || ltb most (octet s (start + i)))
            ≡ leb 0x80 a && (not t || ltb most (octet b i))
        by true e =
            let h = ltb-true i n e in rw (lt-leb (start + n) (start + i) (omega arith), octet-part i h)
        by false e = rw (le-leb (start + n) (start + i) (omega (arith, ltb-false i n e)))

    is-destination : destination_at s ≡ start + 3
    unfolding destination_at
    is-destination = rw form.placed

    is-source : source_at s ≡ start + (3 + extensions (octet b 0))
    unfolding source_at announces extensions less pick
    is-source = rw (is-destination, is-DA) (by (ltb 127 (octet b 0)))
      where
        by : (t : Bool) → pick t (start + 3 + 1) (start + 3) ≡ start + (3 + pick t 1 0)
        by true = omega arith
        by false = omega arith

    is-extension :
        bad_extension s ≡ misnamed b (octet b 0) 3 63 || misnamed b (octet b 1) (3 + extensions (octet b 0)) 62
    unfolding bad_extension
    is-extension =
        rw (form.bodied, is-destination, is-source, is-DA, is-SA)
        (rw (is-named (octet b 0) 3 63, is-named (octet b 1) _ 62))

    is-directed : for_all s ≡ misdirected (octet b 0 % 128) (octet b 2)
    unfolding for_all addressed address misdirected same said
    is-directed = simp (form.bodied, is-DA, is-FC, connectives)

    rows8 : body_refusal b ≡ from8 s
    unfolding body_refusal
    rows8 = rw (is_address, is_control, is-extension, is-directed) (regrouped _ _ _ _ _ _)

  rows5 : refusal (read_body s start n) ≡ from5 s
  unfolding read_body body_answer
  rows5 =
      spared _ 5 _ is-count (λ h5.
      let long = true_same _ _ h5 in
      spared _ 6 _ (is-end long) (λ _.
      spared _ 7 _ (is_sum long) (λ _.
      answered _ _ _ ∙ rows8 long)))

-- ---- by the start octet
SD1-form : (s : List ℕ) → octet s 0 ≡ SD1 → Form s 1 3
unfolding is framed count first pick
SD1-form s h =
    record { least = omega arith; counted = rw h; bodied = rw h; placed = rw h; brief = rw h; other = rw h }

SD2-form : (s : List ℕ) → octet s 0 ≡ SD2 → 4 ≤ octet s 1 → Form s 4 (octet s 1)
unfolding is framed LE count first pick
SD2-form s h least =
    record {
      least = omega arith;
      counted = rw h (omega arith);
      bodied = rw h;
      placed = rw h;
      brief = rw h (sym (ne_eqb (octet s 1) 3 (λ e. omega arith)));
      other = rw h;
    }

SD3-form : (s : List ℕ) → octet s 0 ≡ SD3 → Form s 1 11
unfolding is framed count first pick
SD3-form s h =
    record { least = omega arith; counted = rw h; bodied = rw h; placed = rw h; brief = rw h; other = rw h }

SD1-rows : (s : List ℕ) → octet s 0 ≡ SD1 → refusal (read_body s 1 3) ≡ from2 s
unfolding is no_start cut_sd2 bad_le pick
SD1-rows s h = rw h (rows5 s 1 3 (SD1-form s h))

SD3-rows : (s : List ℕ) → octet s 0 ≡ SD3 → refusal (read_body s 1 11) ≡ from2 s
unfolding is no_start cut_sd2 bad_le pick
SD3-rows s h = rw h (rows5 s 1 11 (SD3-form s h))

module _ (s : List ℕ) (h : octet s 0 ≡ SD2) where
  SD2-start : no_start s ≡ false
  unfolding is no_start
  SD2-start = rw h

  SD2-cut : cut_sd2 s ≡ less (length s) 4
  unfolding is cut_sd2 less
  SD2-cut = rw h

  SD2-le : bad_le s ≡ said (mismeasured (octet s 1) (octet s 2) (octet s 3))
  unfolding is bad_le LE mismeasured said less same
  SD2-le = simp (h, connectives)

  SD2-least : said (mismeasured (octet s 1) (octet s 2) (octet s 3)) ≡ false → 4 ≤ octet s 1
  unfolding mismeasured
  SD2-least e = false-less _ _ (left _ _ _ true-is-false (is_said e)).0

  SD2-rows : refusal (read_sd2 s) ≡ from2 s
  unfolding read_sd2 pick
  SD2-rows =
      rw SD2-start
      (given _ 3 _ SD2-cut (λ _.
      given _ 4 _ SD2-le (λ e.
      rows5 s 4 (octet s 1) (SD2-form s h (SD2-least e)))))

-- an address octet over 126 is 127, or has 0x80 set
over-126 : (a : ℕ) → less 126 a ≡ eqb (a % 128) 127 || leb 0x80 a
unfolding less
over-126 a = by (eqb (a % 128) 127) (leb 0x80 a) refl refl
  where
    by : (t u : Bool) → eqb (a % 128) 127 ≡ t → leb 0x80 a ≡ u → ltb 126 a ≡ t || u
    by true u p q = lt-ltb 126 a (omega (arith, eqb-true (a % 128) 127 p))
    by false true p q = lt-ltb 126 a (omega (arith, leb-true 0x80 a q))
    by false false p q = le-ltb 126 a (omega (arith, eqb-false (a % 128) 127 p, leb-false 0x80 a q))

-- row 8 of a token, then row 11; the reader asks one address after the other
token-tests : (d a : ℕ) (f : Fields)
    → refusal (pick (less 126 d) (Refused 8) (pick (less 126 a) (Refused 8) (plain f)))
    ≡ pick (eqb (a % 128) 127 || eqb (d % 128) 127 || (leb 0x80 d || leb 0x80 a)) 8 (pick (eqb (d % 128) 127) 11 0)
unfolding refusal plain pick
token-tests d a f =
    rw (over-126 d, over-126 a) (by (eqb (d % 128) 127) (leb 0x80 d) (eqb (a % 128) 127) (leb 0x80 a))
  where
    by : (u v w x : Bool)
        → refusal (pick (u || v) (Refused 8) (pick (w || x) (Refused 8) (plain f)))
        ≡ pick (w || u || (v || x)) 8 (pick u 11 0)
    by true v true x = refl
    by true v false x = refl
    by false true true x = refl
    by false true false x = refl
    by false false true x = refl
    by false false false true = refl
    by false false false false = refl

-- the rows that are left of the table for a token, and for an SC
token-left : (s : List ℕ) → octet s 0 ≡ SD4
    → from2 s
    ≡ pick (not (same (length s) 3)) 5
    (pick (eqb (octet s 2 % 128) 127 || eqb (octet s 1 % 128) 127 || (leb 0x80 (octet s 1) || leb 0x80 (octet s 2))) 8
    (pick (eqb (octet s 1 % 128) 127) 11
    0))
unfolding is framed addressed count first DA SA address announces no_start cut_sd2 bad_le wrong_count wrong_end wrong_sum
    bad_address bad_control bad_extension for_all same pick
token-left s h = rw (h, and-true)

short-left : (s : List ℕ) → octet s 0 ≡ SC → from2 s ≡ pick (not (same (length s) 1)) 5 0
unfolding is framed addressed count no_start cut_sd2 bad_le wrong_count wrong_end wrong_sum bad_address bad_control
    bad_extension for_all same pick
short-left s h = rw h

token-rows : (s : List ℕ) → octet s 0 ≡ SD4 → refusal (read_token s) ≡ from2 s
unfolding read_token
token-rows s h = rw (token-left s h) (spared _ 5 _ refl (λ _. token-tests (octet s 1) (octet s 2) _))

short-rows : (s : List ℕ) → octet s 0 ≡ SC → refusal (read_short s) ≡ from2 s
unfolding read_short plain refusal
short-rows s h = rw (short-left s h) (spared _ 5 _ refl (λ _. refl))

-- a first octet that is no start
other-rows : (s : List ℕ) → same (octet s 0) SD1 ≡ false → same (octet s 0) SD2 ≡ false
    → same (octet s 0) SD3 ≡ false → same (octet s 0) SD4 ≡ false → same (octet s 0) SC ≡ false → 2 ≡ from2 s
unfolding is no_start same pick
other-rows s h1 h2 h3 h4 h5 = rw (h1, h2, h3, h4, h5)

pub table-read : (s : List ℕ) → refusal (read s) ≡ table s
unfolding read refusal table no_octets same
table-read s =
    given (same (length s) 0) 1 _ refl (λ _.
    parted _ _ _ (λ h. SD1-rows s (true_same _ _ h)) (λ h1.
    parted _ _ _ (λ h. SD2-rows s (true_same _ _ h)) (λ h2.
    parted _ _ _ (λ h. SD3-rows s (true_same _ _ h)) (λ h3.
    parted _ _ _ (λ h. token-rows s (true_same _ _ h)) (λ h4.
    parted _ _ _ (λ h. short-rows s (true_same _ _ h)) (λ h5.
    other-rows s h1 h2 h3 h4 h5))))))
