-- `largest` meets its contract: the entries that are left give what all give.
use Rattle.building.specs.Largest.{Largest}
use Rattle.building.proofs.rounds.largest.Given as goal

abbrev pub invariant-loop-j : goal.invariant-loop-j
invariant-loop-j l = Largest l.t l.i l.j
