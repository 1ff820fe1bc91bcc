-- `offering::copied` meets its contract: after each turn the steps stand there that were passed, and the block is what `children_of` reads.
use Prim.Native.Nat.{suc, ◌+◌}
use mathlib.Core.List.{◌++◌}
use Rattle.meaning.specs.Forest.{steps_from}
use Rattle.shapes.specs.Shapes.{steps_in}
use Rattle.laws.specs.Children.{children_of}
use Rattle.offering.specs.CopyingLoop.{Copying}
use Rattle.offering.proofs.copied.Given as goal

abbrev pub invariant-loop-s : goal.invariant-loop-s
invariant-loop-s l =
    Copying l.fn.p l.v l.n l.top (l.v + l.s-index) l.t (steps_in l.initial.t ++ steps_from l.top (suc l.n) (children_of (steps_in l.fn.p) l.v))
