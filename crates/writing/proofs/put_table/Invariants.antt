-- `writing::put_table` meets its contract. In turn i the entries from i on are left to store.
use lib.ListN.{length}
use lib.Seq.{sets}
use Rattle.base.specs.Storing.{parts_from, StoringTurn}
use Rattle.meaning.specs.Written.{table_bytes}
use Rattle.shapes.specs.Shapes.{table_of}
use Rattle.writing.specs.BytesWritten.{bytes_of}
use Rattle.writing.proofs.put_table.Given as goal

abbrev pub invariant-loop-e : goal.invariant-loop-e
invariant-loop-e l = let whole = sets l.initial.out 1 (parts_from bytes_of l.fn.t.count 0 l.fn.t.entries) in
    StoringTurn bytes_of l.fn.t.count l.fn.t.entries whole (length (table_bytes (table_of l.fn.t))) l.out l.at l.e-index
