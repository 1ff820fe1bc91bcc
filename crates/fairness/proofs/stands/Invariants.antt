-- `fairness::stands` meets its contract: what is left from entry j on gives what all entries give.
use Rattle.std.proofs.Common.{length}
use Rattle.shapes.specs.Shapes.{pattern_of}
use Rattle.tables.specs.TableSection.{entries_lent}
use Rattle.fairness.specs.Weighing.{WeighingEntries}
use Rattle.fairness.proofs.stands.Given as goal

abbrev pub invariant-loop-j : goal.invariant-loop-j
invariant-loop-j l =
    WeighingEntries l.i (pattern_of l.p) l.table.bytes.now (entries_lent (length l.table.places.now) l.table.places.now) l.j l.held
