-- `best_pair` meets its contract: the rows that are left give what all rows give.
use Rattle.building.specs.Rows.{InRows}
use Rattle.building.proofs.rounds.best_pair.Given as goal

abbrev pub invariant-loop-i : goal.invariant-loop-i
invariant-loop-i l = InRows l.t l.i l.best
