-- A writer of records between two of them, what it has written, and the text of records.
use Rattle.std.specs.Prelude.{◌≡◌, ℕ, List, ◌++◌, false}
use Rattle.std.specs.List.{flat_map}
use Rattle.std.specs.declared.alloc.Global.{Global}
use Rattle.std.specs.declared.vec.Vec.{Vec}
use Rattle.csv.specs.Writing.{default_writer, fields_written, has_written, row_text, writer_pending, writer_setup, writer_under}
use Rattle.csv.specs.declared.writer.Writer.{Writer}

-- a writer with csv's defaults that has ended its last record
pub record IsBetween {W : Type 0} (writer : Writer W) : Type 0 where
  pub ended : fields_written writer ≡ 0
  pub clean : has_written writer ≡ false
  pub setup : writer_setup writer ≡ default_writer

-- what a writer over a list has written, also what it still holds back
abbrev pub written_by : Writer (Vec ℕ Global) → List ℕ
written_by writer = (writer_under writer).items ++ writer_pending writer

-- the text of records, each a line
abbrev pub records_text : List (List (List ℕ)) → List ℕ
records_text records = flat_map (row_text default_writer) records
