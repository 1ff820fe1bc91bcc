-- `best_in_row` meets its contract: the pairs of the row that are left give what the whole row gives.
use Rattle.building.specs.Finding.{InRow}
use Rattle.building.proofs.rounds.best_in_row.Given as goal

abbrev pub invariant-loop-j : goal.invariant-loop-j
invariant-loop-j l = InRow l.t l.i l.initial.best l.j l.best
