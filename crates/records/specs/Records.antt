-- Document 01, "Station": a row of request records as a list of records, and the row of octets that it stands for, of
-- which `rows` says what each call answers and leaves. Assumes nothing.
use Rattle.std.specs.Prelude.{ℕ, false, List, [], ◌∷◌, ◌++◌}
use Rattle.choice.specs.Choice.{pick, same}
use Rattle.request.specs.declared.Record.{Record}
use Rattle.request.specs.Record.{octets}
use Rattle.queue.specs.Queue.{Taken}
use Rattle.rows.specs.Rows.{put, fill}

-- the octets of each record in turn
unfoldable pub row_of : List Record → List ℕ
row_of [] = []
row_of (r ∷ row) = octets r ++ row_of row

-- what a row has where there is no record: its octets past the end are 0
abbrev pub blank : Record
blank =
    record {
      service = 0;
      destination = record { 0 = 0 };
      to = record { 0 = 0 };
      from = record { 0 = 0 };
      length = 0;
      status = 0;
      count = 0;
      reference = 0;
      limit = 0;
      asks = false;
    }

-- the row, and the data area, when submit decided: as they were, or with the record, and its data, at the place taken
unfoldable pub placed : Taken → List ℕ → List ℕ
placed t row = pick (same t.refused 0) (put row t.place t.entry) row

unfoldable pub filled : Taken → List ℕ → List ℕ → List ℕ
filled t x area = pick (same t.refused 0) (fill area t.place x) area
