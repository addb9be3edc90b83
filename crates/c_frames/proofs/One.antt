-- One result at the C boundary: any two answers that meet the promise of `cihlomet_read`, `cihlomet_write`,
-- `cihlomet_token` or `cihlomet_short`, with what they leave in the output, are equal. Assumes nothing.
use Prim.Native.Nat.{ℕ}
use mathlib.Core.Path.{◌≡◌, sym, ◌∙◌}
use mathlib.Core.List.{List, []}
use Rattle.frame.specs.declared.Fields.{Fields}
use Rattle.frame.specs.Format.{written, left}
use Rattle.frame.specs.Reading.{read}
use Rattle.c_frames.specs.declared.FlatFrame.{FlatFrame}
use Rattle.c_frames.specs.declared.FlatWritten.{FlatWritten}
use Rattle.c_frames.specs.Flat.{flat, flat_written, writes, leaves}

pub one-read : (s : List ℕ) {a b : FlatFrame} → a ≡ flat (read s) → b ≡ flat (read s) → a ≡ b
one-read s e f = e ∙ sym f

pub one_written : (destination to source from control : ℕ) (x out : List ℕ) {a b : FlatWritten} {o o' : List ℕ}
    → a ≡ writes destination to source from control x out → o ≡ leaves destination to source from control x out
    → b ≡ writes destination to source from control x out → o' ≡ leaves destination to source from control x out
    → (a ≡ b) × (o ≡ o')
one_written destination to source from control x out e i g j = (e ∙ sym g, i ∙ sym j)

-- a token, and a short acknowledgement: frames without data
pub one-dataless : (f : Fields) (out : List ℕ) {a b : FlatWritten} {o o' : List ℕ} → a ≡ flat_written (written f [] out)
    → o ≡ left f [] out → b ≡ flat_written (written f [] out) → o' ≡ left f [] out → (a ≡ b) × (o ≡ o')
one-dataless f out e i g j = (e ∙ sym g, i ∙ sym j)
