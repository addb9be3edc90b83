-- A body, DA SA FC unit: its head and its data, of a body that the writer makes and of one that the reader accepts.
-- Assumes nothing.
use Prim.Native.Nat.{ℕ, ◌+◌, ◌%◌, ◌<◌, ◌≤◌}
use mathlib.Core.Bool.{Bool, true, false}
use mathlib.Core.List.{List, ◌∷◌, ◌++◌}
use mathlib.Core.Path.{◌≡◌, refl, sym, ◌∙◌, ap}
use native.Mathlib.Nat.{add-zero}
use native.Mathlib.Numerals.{add-one}
use native.Mathlib.Omega.{arith}
use lib.ListN.{length, drop, length-drop}
use lib.Seq.{get_or-drop, drop-drop, drop-append_seam, drop-cons}
use Rattle.choice.specs.Choice.{pick, less}
use Rattle.choice.proofs.Rules.{less-true, less-false, true-less, false-less, true_same, false_same, pick_true}
use Rattle.choice.proofs.Rules.{pick-false, unless-less, unless-same, asked-true, asked-false, passed, held, is_said}
use Rattle.std.specs.Prelude.{Option, None, Some}
use Rattle.frame.specs.declared.Point.{Point}
use Rattle.frame.specs.declared.Head.{Head}
use Rattle.control.specs.Control.{fc, listed}
use Rattle.frame.specs.Format.{announce, extension, unit, addressed, body, outside, misdirected, unwritable_frame}
use Rattle.frame.specs.Reading.{octet, extensions, access_of, data_at, head_of, extended, misnamed, body_refusal}
use Rattle.frame.proofs.Lengths.{length-unit, length-body}
use Rattle.frame_laws.proofs.Cases.{taken, both_ways, true-is-false}
use Rattle.control.proofs.Octet.{control-again, listed-again}

-- ---- one side of a head as written: the address octet `addressed n a`, and its extension at place i of the body b
address-again : (n : ℕ) (a : Option Point) → n < 128 → addressed n a % 128 ≡ n
unfolding addressed announce
address-again n None h = omega arith
address-again n (Some p) h = omega arith

extensions-written : (n : ℕ) (a : Option Point) → n < 128 → extensions (addressed n a) ≡ length (extension a)
unfolding extensions addressed announce extension
extensions-written n None h = pick-false _ _ (less-false (omega arith))
extensions-written n (Some p) h = pick_true _ _ (less-true (omega arith))

unannounced : (n : ℕ) (a : Option Point) → n < 128 → length (extension a) ≡ 0 → less 127 (addressed n a) ≡ false
unfolding addressed announce extension
unannounced n None h e = less-false (omega arith)
unannounced n (Some p) h e = absurd (omega arith)

octet-there : (b : List ℕ) (i p : ℕ) (r : List ℕ) → drop i b ≡ p ∷ r → octet b i ≡ p
octet-there b i p r e = rw add-zero at (sym (get_or-drop i b 0 0)) ∙ rw e

place-there : (b : List ℕ) (i p : ℕ) (r : List ℕ) → drop i b ≡ p ∷ r → i < length b
place-there b i p r e = omega (arith, length-drop i b, ap length e)

access-again : (b : List ℕ) (n : ℕ) (a : Option Point) (i : ℕ) (r : List ℕ) → n < 128 → drop i b ≡ extension a ++ r
    → access_of b (addressed n a) i ≡ a
unfolding access_of addressed announce extension
access-again b n None i r h e = pick-false _ _ (less-false (omega arith))
access-again b n (Some p) i r h e = pick_true _ _ (less-true (omega arith)) ∙ rw (octet-there b i p.0 r e)

named-written : (b : List ℕ) (n : ℕ) (a : Option Point) (i most : ℕ) (r : List ℕ) → n < 128 → drop i b ≡ extension a ++ r
    → outside a most ≡ false → misnamed b (addressed n a) i most ≡ false
unfolding misnamed addressed announce extension outside
named-written b n None i most r h e o = pick-false _ _ (less-false (omega arith))
named-written b n (Some p) i most r h e o =
    pick_true _ _ (less-true (omega arith))
    ∙ (pick_true _ _ (less-true (place-there b i p.0 r e))
    ∙ rw (octet-there b i p.0 r e) o)

rest-written : (b : List ℕ) (n : ℕ) (a : Option Point) (i : ℕ) (r : List ℕ) → n < 128 → drop i b ≡ extension a ++ r
    → drop (i + extensions (addressed n a)) b ≡ r
rest-written b n a i r h e =
    rw (extensions-written n a h, ← drop-drop (length (extension a)) i b, e) (drop-append_seam (extension a) r)

-- ---- a body as written
-- what `unwritable_frame` passes
pub record Writable (h : Head) (units : ℕ) : Type 0 where
  pub source : h.source.0 < 127
  pub destination : h.destination.0 < 128
  pub control : listed (fc h.control) ≡ true
  pub to : outside h.to 63 ≡ false
  pub from : outside h.from 62 ≡ false
  pub directed : misdirected h.destination.0 (fc h.control) ≡ false
  pub most : units ≤ 246

pub writable : (h : Head) (units : ℕ) → unwritable_frame h units ≡ 0 → Writable h units
unfolding unwritable_frame
writable h units e =
    let e1 = passed _ _ _ (omega arith) e in
    let e2 = passed _ _ _ (omega arith) e1.1 in
    let e3 = held _ _ _ (omega arith) e2.1 in
    let e4 = passed _ _ _ (omega arith) e3.1 in
    let e5 = passed _ _ _ (omega arith) e4.1 in
    let e6 = passed _ _ _ (omega arith) e5.1 in
    let e7 = passed _ _ _ (omega arith) e6.1 in
    record {
      source = omega (arith, false-less _ _ e1.0);
      destination = omega (arith, false-less _ _ e2.0);
      control = is_said e3.0;
      to = is_said e4.0;
      from = is_said e5.0;
      directed = is_said e6.0;
      most = omega (arith, false-less _ _ e7.0);
    }

module _ (h : Head) (x : List ℕ) (w : Writable h (length (unit h x))) where
  source-below : h.source.0 < 128
  source-below = omega (arith, w.source)

  to-there : drop 3 (body h x) ≡ extension h.to ++ (extension h.from ++ x)
  unfolding body unit
  to-there = refl

  from-there : drop (3 + extensions (octet (body h x) 0)) (body h x) ≡ extension h.from ++ x
  unfolding body
  from-there = rest-written (body h x) h.destination.0 h.to 3 _ w.destination to-there

  pub data-body : drop (data_at (body h x)) (body h x) ≡ x
  unfolding body data_at
  data-body = rest-written (body h x) h.source.0 h.from _ x source-below from-there

  pub head-body : head_of (body h x) ≡ h
  unfolding body head_of
  head-body =
      rw (
        address-again h.destination.0 h.to w.destination,
        access-again (body h x) h.destination.0 h.to 3 _ w.destination to-there,
        address-again h.source.0 h.from source-below,
        access-again (body h x) h.source.0 h.from _ x source-below from-there,
        control-again h.control,
      )

  -- a body of three octets has no extension octets
  unextended-three : length (unit h x) ≡ 0
      → pick (less 127 (octet (body h x) 0)) true (pick (less 127 (octet (body h x) 1)) true false) ≡ false
  unfolding body
  unextended-three e =
      pick-false _ _ (unannounced _ h.to w.destination (omega (arith, length-unit h x)))
      ∙ pick-false _ _ (unannounced _ h.from source-below (omega (arith, length-unit h x)))

  unextended-body : extended (body h x) ≡ false
  unfolding extended
  unextended-body =
      both_ways _ (λ t. unextended-three (omega (arith, true_same _ _ t, length-body h x))) (λ _. refl)

  accepted-body : body_refusal (body h x) ≡ 0
  unfolding body body_refusal
  accepted-body =
      sym
      (unless-same _ (λ e. omega (arith, w.source, address-again h.source.0 h.from source-below))
      (asked-false _ (sym unextended-body) refl
      (asked-true _ (sym w.control) refl
      (asked-false _ (sym (named-written (body h x) _ _ 3 63 _ w.destination to-there w.to)) refl
      (asked-false _ (sym (named-written (body h x) _ _ _ 62 x source-below from-there w.from)) refl
      (asked-false _ (rw (address-again h.destination.0 h.to w.destination) (sym w.directed)) refl
      refl))))))

-- ---- one side of a head as read: the address octet a, and its extension, if it announces one, at place i of the body b
-- the access point read, and the n octets from place i that hold it
record Named (b : List ℕ) (access : Option Point) (n i most : ℕ) : Type 0 where
  there : drop i b ≡ extension access ++ drop (i + n) b
  within : i + n ≤ length b
  inside : outside access most ≡ false

named : (b : List ℕ) (a i most : ℕ) → i ≤ length b → misnamed b a i most ≡ false
    → Named b (access_of b a i) (extensions a) i most
unfolding misnamed access_of extensions extension outside pick
named b a i most h e = by (less 127 a) e
  where
    by : (t : Bool)
        → pick t (pick (less i (length b)) (pick (less most (octet b i)) true false) true) false ≡ false
        → Named b (pick t (Some (record { 0 = octet b i })) None) (pick t 1 0) i most
    by true e =
        let f = taken (less i (length b)) (pick (less most (octet b i)) true false) true true-is-false e in
        let g = true-less i (length b) f.0 in
        record { there = rw add-one (drop-cons b i 0 g); within = omega arith; inside = f.1 }
    by false e = record { there = rw add-zero; within = omega arith; inside = refl }

address_read : (b : List ℕ) (a i : ℕ) → a < 256 → addressed (a % 128) (access_of b a i) ≡ a
unfolding access_of addressed announce pick
address_read b a i h = by (less 127 a) refl
  where
    by : (t : Bool) → less 127 a ≡ t → addressed (a % 128) (pick t (Some (record { 0 = octet b i })) None) ≡ a
    by true e = omega (arith, true-less 127 a e)
    by false e = omega (arith, false-less 127 a e)

-- ---- a body as read
-- what `body_refusal` passes, of a body of a length that a form has
pub record Sound (b : List ℕ) : Type 0 where
  pub least : 3 ≤ length b
  pub most : length b ≤ 249
  pub accepted : body_refusal b ≡ 0
  pub source : octet b 1 % 128 ≡ 127 → ⊥
  pub control : listed (octet b 2) ≡ true
  pub to : misnamed b (octet b 0) 3 63 ≡ false
  pub from : misnamed b (octet b 1) (3 + extensions (octet b 0)) 62 ≡ false
  pub directed : misdirected (octet b 0 % 128) (octet b 2) ≡ false

pub sound : (b : List ℕ) → 3 ≤ length b → length b ≤ 249 → body_refusal b ≡ 0 → Sound b
unfolding body_refusal
sound b least most e =
    let e1 = passed _ _ _ (omega arith) e in
    let e2 = passed _ _ _ (omega arith) e1.1 in
    let e3 = held _ _ _ (omega arith) e2.1 in
    let e4 = passed _ _ _ (omega arith) e3.1 in
    let e5 = passed _ _ _ (omega arith) e4.1 in
    let e6 = passed _ _ _ (omega arith) e5.1 in
    record {
      least = least;
      most = most;
      accepted = e;
      source = false_same _ _ e1.0;
      control = is_said e3.0;
      to = is_said e4.0;
      from = is_said e5.0;
      directed = is_said e6.0;
    }

pub sound-body : (h : Head) (x : List ℕ) → Writable h (length (unit h x)) → Sound (body h x)
sound-body h x w =
    sound (body h x) (omega (arith, length-body h x)) (omega (arith, length-body h x, w.most)) (accepted-body h x w)

module _ (b : List ℕ) (w : Sound b) where
  to_named : Named b (access_of b (octet b 0) 3) (extensions (octet b 0)) 3 63
  to_named = named b _ 3 63 w.least w.to

  from_named :
      Named b (access_of b (octet b 1) (3 + extensions (octet b 0))) (extensions (octet b 1))
      (3 + extensions (octet b 0)) 62
  from_named = named b _ _ 62 to_named.within w.from

  pub data-within : data_at b ≤ length b
  unfolding data_at
  data-within = from_named.within

  unit-read : drop 3 b ≡ unit (head_of b) (drop (data_at b) b)
  unfolding unit head_of data_at
  unit-read = to_named.there ∙ ap (λ (l : List ℕ). extension (access_of b (octet b 0) 3) ++ l) from_named.there

  units-read : length (unit (head_of b) (drop (data_at b) b)) + 3 ≡ length b
  units-read = omega (arith, ap length unit-read, length-drop 3 b, w.least)

  pub writable-read : unwritable_frame (head_of b) (length (unit (head_of b) (drop (data_at b) b))) ≡ 0
  unfolding unwritable_frame head_of
  writable-read =
      let again = listed-again (octet b 2) w.control in
      sym
      (unless-less _ (omega (arith, w.source))
      (unless-less _ (omega arith)
      (asked-true _ (rw again (sym w.control)) refl
      (asked-false _ (sym to_named.inside) refl
      (asked-false _ (sym from_named.inside) refl
      (asked-false _ (rw again (sym w.directed)) refl
      (unless-less _ (omega (arith, units-read, w.most)) refl)))))))

  pub body-read : octet b 0 < 256 → octet b 1 < 256 → body (head_of b) (drop (data_at b) b) ≡ b
  unfolding body head_of
  body-read h0 h1 =
      rw (
        address_read b (octet b 0) 3 h0,
        address_read b (octet b 1) (3 + extensions (octet b 0)) h1,
        listed-again (octet b 2) w.control,
        ← unit-read,
        ← drop-cons b 2 0 (omega (arith, w.least)),
        ← drop-cons b 1 0 (omega (arith, w.least)),
        ← drop-cons b 0 0 (omega (arith, w.least)),
      )
