-- `fairness::all_fit` meets its contract: what is left from entry j on gives what all entries give.
use Rattle.std.proofs.Common.{length}
use Rattle.tables.specs.TableSection.{entries_lent}
use Rattle.fairness.specs.Each.{FittingEntries}
use Rattle.fairness.proofs.all_fit.Given as goal

abbrev pub invariant-loop-j : goal.invariant-loop-j
invariant-loop-j l = FittingEntries l.n l.table.bytes.now (entries_lent (length l.table.places.now) l.table.places.now) l.j
