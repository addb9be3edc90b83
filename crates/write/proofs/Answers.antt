-- What `written` and `left` are for a frame that is refused, for an output too short and for a frame that is laid; and
-- what is known of a frame with a control octet that nothing refused. Assumes nothing.
use Rattle.std.proofs.Common.{◌≡◌, ℕ, ◌+◌, ◌<◌, ◌≤◌, List, length, sym, refl, ap, ◌∙◌, arith}
use Rattle.choice.specs.Choice.{less, said}
use Rattle.choice.proofs.Rules.{if-less, unless-less, if-same, unless-same, passed, held, false-less}
use Rattle.frame.specs.declared.Head.{Head}
use Rattle.frame.specs.declared.Fields.{Fields}
use Rattle.frame.specs.declared.Fields.TheVariants.{Frame}
use Rattle.frame.specs.Format.{Written}
use Rattle.frame.specs.Format.{Refused, Count}
use Rattle.control.specs.Control.{fc, listed}
use Rattle.frame.specs.Format.{unit, body, framed, octets, outside, misdirected}
use Rattle.frame.specs.Format.{unwritable, unwritable_frame, refused, written, left}
use Rattle.laid.specs.Laid.{laid}
use Rattle.laid.proofs.Laws.{laid-start}
use Rattle.control.proofs.Octet.{listed-fc}
use Rattle.frame.proofs.Lengths.{length-body, length-unit}
use Rattle.write.proofs.Frame.{start, length-framed}

-- ---- the answer r and the output left behind for a frame f with the data x and an output o
abbrev pub Answered : Fields → List ℕ → List ℕ → Written → List ℕ → Type 0
Answered f x o r now = record { value : r ≡ written f x o; out_after : now ≡ left f x o }

-- refused with n, and the output as it was
stopped : (f : Fields) (x o : List ℕ) (n : ℕ) → n ≡ refused f x o → (n ≡ 0 → ⊥) → Answered f x o (Refused n) o
unfolding written left
stopped f x o n e z =
    record {
      value = unless-same _ (λ q. z (e ∙ q)) (ap Refused e);
      out_after = unless-same _ (λ q. z (e ∙ q)) refl;
    }

pub unwritten : (f : Fields) (x : List ℕ) {o : List ℕ} {n : ℕ}
    → n ≡ unwritable f x → (n ≡ 0 → ⊥) → Answered f x o (Refused n) o
unfolding refused
unwritten f x e z = stopped f x _ _ (unless-same _ (λ q. z (e ∙ q)) e) z

-- f with the data x is writable, and its octets are u, n of them
pub record Writes (f : Fields) (x u : List ℕ) (n : ℕ) : Type 0 where
  pub writable : unwritable f x ≡ 0
  pub octets : octets f x ≡ u
  pub count : length u ≡ n

module _ {f : Fields} {x u : List ℕ} {n : ℕ} (w : Writes f x u n) (o : List ℕ) where
  pub short : length o < n → Answered f x o (Refused 13) o
  unfolding refused
  short h =
      let e : 13 ≡ refused f x o = if-same _ w.writable (if-less _ (rw (w.octets, w.count) h) refl) in
      stopped f x o 13 e (λ q. omega arith)

  pub wrote : {now : List ℕ} → n ≤ length o → now ≡ laid o 0 u → Answered f x o (Count n) now
  unfolding refused written left
  wrote h e =
      let z : 0 ≡ refused f x o = if-same _ w.writable (unless-less _ (rw (w.octets, w.count) h) refl) in
      record {
        value = if-same _ (sym z) (rw (w.octets, w.count));
        out_after = if-same _ (sym z) (rw w.octets (e ∙ laid-start o u));
      }

-- ---- a frame with a control octet, n the count of its unit's octets and r its refusal
pub record Writable (h : Head) (n : ℕ) : Type 0 where
  pub source : h.source.0 ≤ 126
  pub destination : h.destination.0 ≤ 127
  pub units : n ≤ 246

pub writable : (h : Head) {n r : ℕ} → r ≡ unwritable_frame h n → r ≡ 0 → Writable h n
unfolding unwritable_frame
writable h {n} e z =
    let a = passed (less 126 h.source.0) 8 _ (omega arith) (sym e ∙ z) in
    let b = passed (less 127 h.destination.0) 8 _ (omega arith) a.1 in
    let d = held (said (listed (fc h.control))) _ 9 (omega arith) b.1 in
    let f = passed (said (outside h.to 63)) 10 _ (omega arith) d.1 in
    let g = passed (said (outside h.from 62)) 10 _ (omega arith) f.1 in
    let i = passed (said (misdirected h.destination.0 (fc h.control))) 11 _ (omega arith) g.1 in
    let j = passed (less 246 n) 12 0 (omega arith) i.1 in
    record { source = false-less _ _ a.0; destination = false-less _ _ b.0; units = false-less _ _ j.0 }

module _ (h : Head) (x : List ℕ) {n r : ℕ} (e : n ≡ length (unit h x)) (a : r ≡ unwritable_frame h n) where
  pub frame_refused : r ≡ unwritable (Frame h) x
  unfolding unwritable
  frame_refused = rw (← e) a

  pub writes-frame : r ≡ 0 → Writes (Frame h) x (framed (body h x)) (length (start (n + 3)) + (n + 5))
  unfolding octets
  writes-frame z =
      record {
        writable = sym frame_refused ∙ z;
        octets = refl;
        count = length-framed (body h x) n (omega (arith, length-body h x));
      }

-- ---- what the functions use by these names
pub ruleset lengths = (length-unit)

pub ruleset listing = (listed-fc)
