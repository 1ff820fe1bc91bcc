-- `writing::table_length` meets its contract. In turn i the length and that of the entries from i on are the table's.
use Rattle.writing.specs.BytesWritten.{Measuring}
use Rattle.writing.proofs.table_length.Given as goal

abbrev pub invariant-loop-e : goal.invariant-loop-e
invariant-loop-e l = Measuring l.fn.t l.e-index l.long
