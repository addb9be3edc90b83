-- What the C boundary hands over: answers as structs of numbers. 255 stands for "no access point". Assumes nothing.
use Rattle.std.specs.Prelude.{ℕ, List, Result, Ok, Err}
use Rattle.choice.specs.Choice.{pick, less, said}
use Rattle.frame.specs.declared.Head.{Head}
use Rattle.frame.specs.declared.Fields.{Fields}
use Rattle.frame.specs.declared.Fields.TheVariants.{Token, Short, Frame}
use Rattle.frame.specs.Reading.{Answer}
use Rattle.frame.specs.Reading.{Refused, Read}
use Rattle.frame.specs.Format.{Written}
use Rattle.frame.specs.Format.{Refused as WrittenRefused, Count}
use Rattle.control.specs.Control.{fc, control_of, listed}
use Rattle.frame.specs.Format.{written, left}
use Rattle.frame.specs.Access.{NONE, access_of, point_of}
use Rattle.c_frames.specs.declared.FlatFrame.{FlatFrame}
use Rattle.c_frames.specs.declared.FlatWritten.{FlatWritten}

-- an answer: its refusal, or the form (1 token, 2 short acknowledgement, 3 frame), the fields and where the data lie
unfoldable pub flat : Answer → FlatFrame
flat (Refused n) =
    record {
      refused = n;
      form = 0;
      destination = 0;
      to = NONE;
      source = 0;
      from = NONE;
      control = 0;
      start = 0;
      count = 0;
    }
flat (Read (Token d s) p) =
    record {
      refused = 0;
      form = 1;
      destination = d.0;
      to = NONE;
      source = s.0;
      from = NONE;
      control = 0;
      start = p.start;
      count = p.count;
    }
flat (Read Short p) =
    record {
      refused = 0;
      form = 2;
      destination = 0;
      to = NONE;
      source = 0;
      from = NONE;
      control = 0;
      start = p.start;
      count = p.count;
    }
flat (Read (Frame h) p) =
    record {
      refused = 0;
      form = 3;
      destination = h.destination.0;
      to = point_of h.to;
      source = h.source.0;
      from = point_of h.from;
      control = fc h.control;
      start = p.start;
      count = p.count;
    }

-- the fields that numbers mean
unfoldable pub head_from : ℕ → ℕ → ℕ → ℕ → ℕ → Head
head_from destination to source from control =
    record {
      destination = record { 0 = destination };
      to = access_of to;
      source = record { 0 = source };
      from = access_of from;
      control = control_of control;
    }

abbrev pub token_from : ℕ → ℕ → Fields
token_from destination source = Token (record { 0 = destination }) (record { 0 = source })

-- an answer of the writer by number: the octets written, or the number of the refusal
unfoldable pub counted : Result ℕ ℕ → Written
counted (Ok n) = Count n
counted (Err n) = WrittenRefused n

-- an answer of the writer
unfoldable pub flat_written : Written → FlatWritten
flat_written (WrittenRefused n) = record { refused = n; count = 0 }
flat_written (Count n) = record { refused = 0; count = n }

-- the refusal of numbers whose FC is not listed: 8 goes before 9
unfoldable pub unlisted : ℕ → ℕ → FlatWritten
unlisted destination source =
    pick (less 126 source) (record { refused = 8; count = 0 })
    (pick (less 127 destination) (record { refused = 8; count = 0 }) (record { refused = 9; count = 0 }))

-- what writing numbers answers, and leaves in the output
unfoldable pub writes : ℕ → ℕ → ℕ → ℕ → ℕ → List ℕ → List ℕ → FlatWritten
writes destination to source from control x out =
    pick (said (listed control)) (flat_written (written (Frame (head_from destination to source from control)) x out))
    (unlisted destination source)

unfoldable pub leaves : ℕ → ℕ → ℕ → ℕ → ℕ → List ℕ → List ℕ → List ℕ
leaves destination to source from control x out =
    pick (said (listed control)) (left (Frame (head_from destination to source from control)) x out) out
