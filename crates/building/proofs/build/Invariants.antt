-- `build` meets its contract. The rounds made so far and what is left of the build give the whole; the measure is the steps that are left.
use mathlib.Core.Path.{◌≡◌}
use Prim.Native.Nat.{◌≤◌}
use Rattle.meaning.specs.Building.{steps_together}
use Rattle.shapes.specs.Shapes.{table_of}
use Rattle.building.specs.Counting.{InRounds}
use Rattle.building.proofs.build.Given as goal

abbrev pub invariant-loop-left : goal.invariant-loop-left
invariant-loop-left l = InRounds l.most (table_of l.initial.m.table) l.m.rounds (table_of l.m.table)
    × (l.left ≡ steps_together (table_of l.m.table)) × (steps_together (table_of l.initial.m.table) ≤ 1024)

abbrev pub decreases-loop-left : goal.decreases-loop-left
decreases-loop-left l = l.left
