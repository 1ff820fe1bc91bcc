-- `settle` meets its contract. The pairs passed are clear; each turn removes an entry or passes a row, so the measure falls.
use Prim.Native.Nat.{◌*◌, ◌-◌}
use Rattle.shapes.specs.Shapes.{table_of}
use Rattle.settling.specs.Settled.{Searched}
use Rattle.settling.proofs.settle.Given as goal

abbrev pub invariant-loop-i : goal.invariant-loop-i
invariant-loop-i l = Searched (table_of l.initial.t) (table_of l.t) l.i l.from

abbrev pub decreases-loop-i : goal.decreases-loop-i
decreases-loop-i l = 2 * l.t.count - l.i
