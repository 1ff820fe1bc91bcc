-- `offering::stays` meets its contract: after each turn the branches are left that were passed and stay.
use Prim.Native.Nat.{◌-◌}
use Rattle.shapes.specs.Shapes.{pattern_of, WellFormed}
use Rattle.offering.specs.Staying.{LeftToAsk}
use Rattle.offering.proofs.stays.Given as goal

abbrev pub invariant-loop-k : goal.invariant-loop-k
invariant-loop-k l = LeftToAsk l.kept (pattern_of l.c) l.k l.r × WellFormed l.c

abbrev pub decreases-loop-k : goal.decreases-loop-k
decreases-loop-k l = l.kept.count - l.k
