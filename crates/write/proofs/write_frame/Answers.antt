-- `write::write_frame` meets its contract: a refusal by its own function, else the start, the body and the closing.
use Rattle.std.proofs.Common.{◌≡◌, ℕ, ◌+◌, List, length, refl, ◌∙◌, arith, Ok}
use Rattle.refusal.specs.Refusal.{refused, number}
use Rattle.frame.specs.Format.{wrote as format_wrote}
use Rattle.choice.specs.Choice.{pick, same}
use Rattle.frame.specs.declared.Head.{Head}
use Rattle.frame.specs.declared.Fields.TheVariants.{Frame}
use Rattle.frame.specs.Format.{unit, body, framed, unwritable_frame}
use Rattle.frame.proofs.Lengths.{length-body}
use Rattle.write.proofs.Frame.{start, length-start, laid-frame}
use Rattle.write.proofs.Answers.{Writes, short, wrote, writable, writes-frame}
use Rattle.write.proofs.write_frame.Goals as goal

-- how many octets the body has, and how many the frame
long : (h : Head) (x : List ℕ) {n : ℕ} → n ≡ length (unit h x) → length (body h x) ≡ n + 3
long h x e = omega (arith, length-body h x)

count : (n : ℕ) {k : ℕ} → k ≡ pick (same n 0) 6 (n + 9) → k ≡ length (start (n + 3)) + (n + 5)
count n e = e ∙ length-start n

-- nothing refused it
unrefused : {n : ℕ} {a : Unit {0}} → refused (Ok a) ≡ n → 0 ≡ n
unfolding refused
unrefused e = e

-- what is written then
writes : (h : Head) (x : List ℕ) {n k : ℕ} → n ≡ length (unit h x) → 0 ≡ unwritable_frame h n
    → k ≡ pick (same n 0) 6 (n + 9) → Writes (Frame h) x (framed (body h x)) k
writes h x e a o = rw (count _ o) (writes-frame h x e a refl)

pub octets-count-requires : goal.octets-count-requires
octets-count-requires c = (writable c.args.h {r = 0} (unrefused c.in_ok-refusal.ensures) refl).units

pub returns-then-out-count : goal.returns-then-out-count
unfolding format_wrote number
returns-then-out-count c =
    let w = writes c.args.h c.args.«data».now c.units-n.ensures (unrefused c.in_ok-refusal.ensures)
    c.octets-count.ensures in
    let a = short w _ (omega arith) in
    record { value = a.value; out_after = a.out_after }

pub overflow_add-n : goal.overflow_add-n
overflow_add-n c = omega (arith, (writable c.args.h {r = 0} (unrefused c.in_ok-refusal.ensures) refl).units)

pub overflow_cast-n : goal.overflow_cast-n
overflow_cast-n c = omega (arith, (writable c.args.h {r = 0} (unrefused c.in_ok-refusal.ensures) refl).units)

pub lay_start-at-requires : goal.lay_start-at-requires
lay_start-at-requires c = omega (arith, count c.units-n.result c.octets-count.ensures)

pub lay_body-t-requires : goal.lay_body-t-requires
lay_body-t-requires c =
    let w = writable c.args.h {r = 0} (unrefused c.in_ok-refusal.ensures) refl in
    let k = count c.units-n.result c.octets-count.ensures in
    let b = long c.args.h c.args.«data».now c.units-n.ensures in
    record {
      control_value = c.fc-control.ensures.value;
      destination_bound = (w.destination, w.source);
      data_in_bounds = omega (arith, k, b, c.lay_start-at.ensures.place);
    }

pub close-requires : goal.close-requires
close-requires c =
    let k = count c.units-n.result c.octets-count.ensures in
    let b = long c.args.h c.args.«data».now c.units-n.ensures in
    omega (arith, k, b, c.lay_start-at.ensures.place, c.lay_body-t.ensures.lays.place)

pub returns : goal.returns
unfolding format_wrote
returns c =
    let h = c.args.h in
    let x = c.args.«data».now in
    let n = c.units-n.result in
    let w = writes h x c.units-n.ensures (unrefused c.in_ok-refusal.ensures) c.octets-count.ensures in
    let k = count c.units-n.result c.octets-count.ensures in
    let s = c.lay_start-at.ensures in
    let l = laid-frame (body h x) (n + 3) (omega (arith, k, s.place)) (long h x c.units-n.ensures) s
    c.lay_body-t.ensures in
    let a = wrote w _ (omega arith) (c.close.ensures ∙ l) in
    record { value = a.value; out_after = a.out_after }
