-- What octets leave of a desk and a line at hand, and what is printed: a line that is gathered from a block, two parts
-- of an input one behind the other.
use Rattle.std.proofs.Common.{◌≡◌, ℕ, suc, ◌+◌, ◌<◌, ◌≤◌, Bool, true, false, List, [], ◌∷◌, ◌++◌, append_assoc, append-nil, length, take, drop, refl, sym, ap, ◌∙◌, subst, arith}
use lib.ListN.{drop_of_length-le, length-drop}
use lib.Seq.{take_at, take_all, length-take-le, drop-drop}
use Rattle.std.specs.Io.KnownBytes.{Appends}
use Rattle.std.proofs.KnownBytes.{Appends-nil, Appends-trans}
use Rattle.std.specs.declared.option.Option.{Option}
use Rattle.choice.specs.Choice.{pick, less, same}
use Rattle.choice.proofs.Rules.{true-less, false-less}
use Rattle.laid.specs.Laid.{Lays}
use Rattle.laid.proofs.Laws.{laid-start}
use Rattle.typed_lines.specs.declared.Gathered.{Gathered}
use Rattle.typed_lines.specs.Intake.{NEWLINE, ROOM, kept, before, more, place_behind, gathered, Gathers}
use Rattle.typed_lines.proofs.Kept.{kept-kept, gathered-on, gathered-few}
use Rattle.desk.specs.Desk.{Desk}
use Rattle.replay.specs.Script.{Stand, on, behind, written, heeded, heeded_line}

-- what was printed stands at the start of the text
pub printed : {l a m : List ℕ} {room r : ℕ} → Lays l 0 a room r m → take r m ≡ a
printed {l} {a} {m} {room} {r} x = rw (x.left, laid-start l a) (take_at a (drop (length a) l) r (omega (arith, x.place)))

-- ---- two parts of an input
pub behind-both : (s t : List ℕ) (x : Stand) → behind (s ++ t) x ≡ behind t (behind s x)
unfolding behind
behind-both [] t x = refl
behind-both (c ∷ s) t x = behind-both s t (on c x)

pub written-both : (s t : List ℕ) (x : Stand) → written (s ++ t) x ≡ written s x ++ written t (behind s x)
unfolding behind written
written-both [] t x = refl
written-both (c ∷ s) t x =
    ap (λ l. heeded_line (same c NEWLINE) x ++ l) (written-both s t (on c x))
    ∙ sym (append_assoc (heeded_line (same c NEWLINE) x) (written s (on c x)) (written t (behind s (on c x))))

-- ---- octets up to a line end, and up to the end of a block
abbrev pub at : Desk → List ℕ → Stand
at d u = record { desk = d; line = u }

-- octets are taken as a line that is answered if it is whole, and then the rest
pub record Turn (t rest : List ℕ) (whole : Bool) (x y : Stand) : Type 0 where
  pub left : behind t x ≡ behind rest (heeded whole y)
  pub text : written t x ≡ heeded_line whole y ++ written rest (heeded whole y)

fits : (u : List ℕ) → kept (kept u) ≡ kept u
fits u = sym (ap kept (append-nil (kept u))) ∙ kept-kept u [] ∙ ap kept (append-nil u)

joined : (u s : List ℕ) (c : ℕ) → kept (kept (u ++ (c ∷ [])) ++ s) ≡ kept (u ++ (c ∷ s))
joined u s c = kept-kept (u ++ (c ∷ [])) s ∙ ap kept (append_assoc u (c ∷ []) s)

small : (u : List ℕ) → length u ≤ ROOM → kept u ≡ u
unfolding kept
small u h = take_all ROOM u h

here : (u : List ℕ) → kept u ≡ u → kept (u ++ []) ≡ u
here u k = ap kept (append-nil u) ∙ k

-- a line end is met
abbrev pub Met : List ℕ → Desk → List ℕ → Type 0
Met t d u = Turn t (drop (suc (before t)) t) true (at d u) (at d (kept (u ++ take (before t) t)))

met_by : (b : Bool) (c : ℕ) (s : List ℕ) (d : Desk) (u : List ℕ) → same c NEWLINE ≡ b → kept u ≡ u
    → pick b 0 (suc (before s)) < suc (length s)
    → (before s < length s → Met s d (kept (u ++ (c ∷ []))))
    → Met (c ∷ s) d u
unfolding behind written on pick before heeded_line
met_by true c s d u e k h f =
    rw (e, here u k) (record { left = rw e refl; text = rw e refl })
met_by false c s d u e k h f =
    let x = f (omega arith) in
    rw (e, ← joined u (take (before s) s) c) (record { left = rw e x.left; text = rw e x.text })

pub met : (t : List ℕ) (d : Desk) (u : List ℕ) → kept u ≡ u → before t < length t → Met t d u
unfolding before
met [] d u k h = absurd (omega arith)
met (c ∷ s) d u k h = met_by (same c NEWLINE) c s d u refl k h (met s d (kept (u ++ (c ∷ []))) (fits (u ++ (c ∷ []))))

-- none is met
abbrev pub Unmet : List ℕ → Desk → List ℕ → Type 0
Unmet t d u = Turn t [] false (at d u) (at d (kept (u ++ take (before t) t)))

unmet_by : (b : Bool) (c : ℕ) (s : List ℕ) (d : Desk) (u : List ℕ) → same c NEWLINE ≡ b
    → suc (length s) ≤ pick b 0 (suc (before s))
    → (length s ≤ before s → Unmet s d (kept (u ++ (c ∷ []))))
    → Unmet (c ∷ s) d u
unfolding behind written on pick before heeded_line
unmet_by true c s d u e h f = absurd (omega arith)
unmet_by false c s d u e h f =
    let x = f (omega arith) in
    rw (e, ← joined u (take (before s) s) c) (record { left = rw e x.left; text = rw e x.text })

pub unmet : (t : List ℕ) (d : Desk) (u : List ℕ) → kept u ≡ u → length t ≤ before t → Unmet t d u
unfolding before behind written heeded heeded_line pick
unmet [] d u k h = rw (here u k) (record { left = refl; text = refl })
unmet (c ∷ s) d u k h = unmet_by (same c NEWLINE) c s d u refl h (unmet s d (kept (u ++ (c ∷ []))) (fits (u ++ (c ∷ []))))

-- ---- a line that was gathered
turned_by : (b : Bool) (block : List ℕ) (from : ℕ) (d : Desk) (u : List ℕ) → kept u ≡ u → from < length block
    → less (place_behind block from) (length block) ≡ b
    → Turn (drop from block) (drop (gathered u block from).next block) (gathered u block from).whole (at d u)
    (at d (more u block from))
unfolding gathered place_behind more pick
turned_by true block from d u k h e =
    let t = drop from block in
    let m : before t < length t = omega (arith, true-less _ _ e, length-drop from block) in
    let n : from + before t + 1 ≡ from + suc (before t) = omega arith in
    rw (e, n, ← drop-drop (suc (before t)) from block) (met t d u k m)
turned_by false block from d u k h e =
    let t = drop from block in
    let m : length t ≤ before t = omega (arith, false-less _ _ e, length-drop from block) in
    let n : length block ≤ from + before t = false-less _ _ e in
    rw (e, drop_of_length-le block n) (unmet t d u k m)

count_by : (b : Bool) (block : List ℕ) (from : ℕ) (u : List ℕ) → less (place_behind block from) (length block) ≡ b
    → (gathered u block from).count ≡ length (more u block from)
unfolding gathered pick
count_by true block from u e = rw e refl
count_by false block from u e = rw e refl

left : (block : List ℕ) (from count : ℕ) (line line' : List ℕ) (r : Gathered) → Gathers line block from count r line'
    → take r.count line' ≡ more (take count line) block from
left block from count line line' r x =
    let q = more (take count line) block from in
    let n : r.count ≡ length q =
    ap (λ (g : Gathered). g.count) x.answer
    ∙ count_by (less (place_behind block from) (length block)) block from (take count line) refl in
    rw (x.left, laid-start line q) (take_at q (drop (length q) line) r.count (sym n))

pub gather-few : {line block line' : List ℕ} {from count : ℕ} {r : Gathered} → Gathers line block from count r line'
    → r.count ≤ ROOM
gather-few {line} {block} {line'} {from} {count} x = rw x.answer (gathered-few (take count line) block from)

pub gather-on : {line block line' : List ℕ} {from count : ℕ} {r : Gathered} → from < length block
    → Gathers line block from count r line'
    → from < r.next
gather-on {line} {block} {line'} {from} {count} h x = rw x.answer (gathered-on (take count line) block from h)

pub turned : (block : List ℕ) (from count : ℕ) (line line' : List ℕ) (d : Desk) (r : Gathered) → count ≤ ROOM
    → count ≤ length line → from < length block → Gathers line block from count r line'
    → Turn (drop from block) (drop r.next block) r.whole (at d (take count line)) (at d (take r.count line'))
turned block from count line line' d r n m h x =
    let u = take count line in
    let k : kept u ≡ u = small u (omega (arith, length-take-le count line m)) in
    rw (left block from count line line' r x, x.answer)
    (turned_by (less (place_behind block from) (length block)) block from d u k h refl)

-- ---- a block of which the rest is still to be taken: what was written, and what the rest does, is what all of it does
pub record Taken (old now : Option (List ℕ)) (all rest : List ℕ) (x y : Stand) : Type 0 where
  pub text : List ℕ
  pub bytes : Appends old now text
  pub prints : text ++ written rest y ≡ written all x
  pub leaves : behind rest y ≡ behind all x

pub taken-none : (w : Option (List ℕ)) (all : List ℕ) (x : Stand) → Taken w w all all x x
taken-none w all x = record { text = []; bytes = Appends-nil w; prints = refl; leaves = refl }

pub taken-on : {old now new : Option (List ℕ)} {all t rest : List ℕ} {b : Bool} {x y z v : Stand}
    → Taken old now all t x y → Turn t rest b y z → v ≡ heeded b z → Appends now new (heeded_line b z)
    → Taken old new all rest x v
taken-on {old} {now} {new} {all} {t} {rest} {b} {x} {y} {z} {v} k h e w =
    record {
      text = k.text ++ heeded_line b z;
      bytes = Appends-trans old now new k.text (heeded_line b z) k.bytes w;
      prints = rw e
          (append_assoc k.text (heeded_line b z) (written rest (heeded b z))
          ∙ ap (λ l. k.text ++ l) (sym h.text) ∙ k.prints);
      leaves = rw e (sym h.left ∙ k.leaves);
    }

pub taken_all : {old now : Option (List ℕ)} {all : List ℕ} {x y : Stand} → Taken old now all [] x y
    → (y ≡ behind all x) × Appends old now (written all x)
unfolding behind written
taken_all {old} {now} k = (k.leaves, subst (Appends old now) (sym (append-nil k.text) ∙ k.prints) k.bytes)
