-- What is written for a whole script: what its lines print. And the walk over an input that comes in blocks.
use Rattle.std.proofs.Common.{◌≡◌, ℕ, ◌+◌, ◌<◌, ◌≤◌, Bool, true, false, List, [], ◌∷◌, ◌++◌, append_assoc, append-nil, length, take, refl, sym, ap, ◌∙◌, subst, arith, None, Some, IfSome}
use Rattle.std.specs.declared.option.Option.{Option}
use Rattle.std.specs.List.{concat}
use Rattle.std.specs.Io.KnownBytes.{Appends, Consumes, IsAtEnd}
use Rattle.std.proofs.KnownBytes.{Appends-nil, Appends-trans, Consumes-nil, Consumes-trans}
use lib.ListN.{get_or, length-append}
use lib.Seq.{length-take-le, take_all, get_or-take}
use Rattle.choice.specs.Choice.{pick, less, same}
use Rattle.choice.proofs.Rules.{less-true, true-less, false-less, same_false}
use Rattle.typed.specs.Places.{LONGEST}
use Rattle.typed_lines.specs.Intake.{NEWLINE, ROOM, kept}
use Rattle.typed_lines.proofs.Kept.{kept-kept}
use Rattle.desk.specs.Desk.{Desk, Answered, answer}
use Rattle.desk.specs.Scripts.{printed}
use Rattle.desk.specs.Scripts.Past.{unbegun}
use Rattle.desk.specs.Scripts.Stands.{idle}
use Rattle.desk.proofs.Running.{script-prints}
use Rattle.replay.specs.Script.{READS, Stand, on, behind, written, heeded, heeded_line, lines, answers}
use Rattle.replay.proofs.Taken.{at, behind-both, written-both}

-- ---- a line of which not all is kept is answered as what is kept
kept_by : (b : Bool) (l : List ℕ) (d : Desk) → less ROOM (length l) ≡ b → answer (kept l) d ≡ answer l d
unfolding kept answer pick
kept_by true l d e =
    let h : ROOM < length l = true-less _ _ e in
    let n : length (take ROOM l) ≡ ROOM = length-take-le ROOM l (omega arith) in
    let some : same (length l) 0 ≡ false = same_false {a = length l} {b = 0} (λ z. absurd (omega arith)) in
    let few : same (length (take ROOM l)) 0 ≡ false =
    same_false {a = length (take ROOM l)} {b = 0} (λ z. absurd (omega arith)) in
    let long : less LONGEST (length l) ≡ true = less-true (omega arith) in
    let much : less LONGEST (length (take ROOM l)) ≡ true = less-true (omega arith) in
    let first : get_or (take ROOM l) 0 0 ≡ get_or l 0 0 = get_or-take ROOM l 0 0 (omega arith) in
    rw (some, few, long, much, first) refl
kept_by false l d e = ap (λ m. answer m d) (take_all ROOM l (false-less _ _ e))

kept-answer : (l : List ℕ) (d : Desk) → answer (kept l) d ≡ answer l d
kept-answer l d = kept_by (less ROOM (length l)) l d refl

-- ---- what is written for octets behind a line, and for the line at hand when they end, is what the lines print
none : kept [] ≡ []
unfolding kept
none = take_all ROOM [] (omega arith)

abbrev Prints : List ℕ → List ℕ → Desk → Type 0
Prints s u d =
    written s (at d (kept u)) ++ heeded_line true (behind s (at d (kept u))) ≡ concat (printed (lines u s) d)

prints_by : (b : Bool) (c : ℕ) (s u : List ℕ) (d : Desk) → same c NEWLINE ≡ b
    → Prints s [] (answer u d).desk → Prints s (u ++ (c ∷ [])) d
    → Prints (c ∷ s) u d
unfolding behind written on pick heeded heeded_line lines printed
prints_by true c s u d e f g =
    let x = at d (kept u) in
    let a = (answer u d).line in
    let on-is : on c x ≡ at (answer u d).desk [] = rw (e, kept-answer u d) refl in
    let left : written (c ∷ s) x ≡ a ++ written s (on c x) =
    ap (λ b. heeded_line b x ++ written s (on c x)) e
    ∙ ap (λ (q : Answered). q.line ++ written s (on c x)) (kept-answer u d) in
    let right : u ∷ lines [] s ≡ lines u (c ∷ s) = rw e refl in
    let rest : written s (at (answer u d).desk []) ++ heeded_line true (behind s (at (answer u d).desk []))
    ≡ concat (printed (lines [] s) (answer u d).desk) = rw none at f in
    ap (λ l. l ++ heeded_line true (behind s (on c x))) left
    ∙ append_assoc a (written s (on c x)) (heeded_line true (behind s (on c x)))
    ∙ ap (λ y. a ++ (written s y ++ heeded_line true (behind s y))) on-is ∙ ap (λ l. a ++ l) rest
    ∙ ap (λ l. concat (printed l d)) right
prints_by false c s u d e f g =
    let x = at d (kept u) in
    let on-is : on c x ≡ at d (kept (u ++ (c ∷ []))) = rw (e, kept-kept u (c ∷ [])) refl in
    let left : written (c ∷ s) x ≡ written s (on c x) = ap (λ b. heeded_line b x ++ written s (on c x)) e in
    let right : lines (u ++ (c ∷ [])) s ≡ lines u (c ∷ s) = rw e refl in
    ap (λ l. l ++ heeded_line true (behind s (on c x))) left
    ∙ ap (λ y. written s y ++ heeded_line true (behind s y)) on-is ∙ g ∙ ap (λ l. concat (printed l d)) right

prints : (s u : List ℕ) (d : Desk) → Prints s u d
unfolding behind written lines printed heeded_line pick
prints [] u d = ap (λ (a : Answered). a.line) (kept-answer u d) ∙ sym (append-nil (answer u d).line)
prints (c ∷ s) u d =
    prints_by (same c NEWLINE) c s u d refl (prints s [] (answer u d).desk) (prints s (u ++ (c ∷ [])) d)

-- ---- an input that comes in blocks: what was read of it, what was written for that, and how often it may yet be read
pub record Served (r s v w : Option (List ℕ)) (left : ℕ) (x y : Stand) : Type 0 where
  pub read : List ℕ
  pub took : Consumes r s read
  pub bytes : Appends v w (written read x)
  pub stands : y ≡ behind read x
  pub many : READS ≤ length read + left

pub served-none : (r v : Option (List ℕ)) (x : Stand) → Served r r v v READS x x
unfolding behind written
served-none r v x =
    record { read = []; took = Consumes-nil r; bytes = Appends-nil v; stands = refl; many = omega arith }

pub served-on : {r s t u v w : Option (List ℕ)} {left more : ℕ} {x y z : Stand} (b : List ℕ)
    → Served r s u v left x y → Consumes s t b → 0 < length b → z ≡ behind b y → Appends v w (written b y)
    → left ≡ more + 1 → Served r t u w more x z
served-on {r} {s} {t} {u} {v} {w} {left} {more} {x} {y} {z} b k c n e a m =
    let f : behind b y ≡ behind (k.read ++ b) x = ap (behind b) k.stands ∙ sym (behind-both k.read b x) in
    let g : written k.read x ++ written b y ≡ written (k.read ++ b) x =
    ap (λ q. written k.read x ++ written b q) k.stands ∙ sym (written-both k.read b x) in
    record {
      read = k.read ++ b;
      took = Consumes-trans r s t k.read b k.took c;
      bytes = subst (Appends u w) g (Appends-trans u v w _ _ k.bytes a);
      stands = e ∙ f;
      many = omega (arith, k.many, length-append k.read b);
    }

-- at the end of the input
ended : (r s t : Option (List ℕ)) (read : List ℕ) (P : List ℕ → Type 0) → Consumes r s read → Consumes s t []
    → IsAtEnd t → P read → IfSome r P
ended None s t read P c d e p = tt
ended (Some a) None t read P c d e p = absurd c
ended (Some a) (Some b) None read P c d e p = absurd d
ended (Some a) (Some b) (Some q) read P c d e p =
    subst P (sym (c ∙ ap (λ l. read ++ l) (d ∙ e) ∙ append-nil read)) p

pub served-all : {r s u v : Option (List ℕ)} {left : ℕ} {y : Stand} {d : Desk} (t w : Option (List ℕ))
    → Served r s u v left (at d []) y → d.begun ≡ false → Consumes s t [] → IsAtEnd t
    → Appends v w (heeded_line true y)
    → IfSome r (λ script. length script < READS → Appends u w (answers script))
unfolding answers kept
served-all {r} {s} {u} {v} {left} {y} {d} t w k b c e a =
    let f : heeded_line true y ≡ heeded_line true (behind k.read (at d [])) = ap (heeded_line true) k.stands in
    let g : written k.read (at d []) ++ heeded_line true y ≡ answers k.read =
    ap (λ l. written k.read (at d []) ++ l) f ∙ prints k.read [] d
    ∙ ap concat (script-prints (lines [] k.read) unbegun d (idle refl b)) in
    let h : Appends u w (answers k.read) = subst (Appends u w) g (Appends-trans u v w _ _ k.bytes a) in
    ended r s t k.read (λ script. length script < READS → Appends u w (answers script)) k.took c e (λ _. h)

-- after all reads the input is longer than that
many : (r s : Option (List ℕ)) (read : List ℕ) (P : List ℕ → Type 0) → Consumes r s read → READS ≤ length read
    → IfSome r (λ script. length script < READS → P script)
many None s read P c h = tt
many (Some a) None read P c h = absurd c
many (Some a) (Some b) read P c h = λ n. absurd (omega (arith, ap length c, length-append read b))

pub served-many : {r s u v : Option (List ℕ)} {left : ℕ} {x y : Stand} → Served r s u v left x y → left ≤ 0
    → (P : List ℕ → Type 0)
    → IfSome r (λ script. length script < READS → P script)
served-many {r} {s} k h P = many r s k.read P k.took (omega (arith, k.many))
