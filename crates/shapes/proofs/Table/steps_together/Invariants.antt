-- `shapes::Table::steps_together` meets its contract: the steps of the entries passed are added up.
use Rattle.shapes.specs.Summing.{Summed}
use Rattle.shapes.proofs.Table.steps_together.Given as goal

abbrev pub invariant-loop-e : goal.invariant-loop-e
invariant-loop-e l = Summed l.fn.self l.e-index l.n
