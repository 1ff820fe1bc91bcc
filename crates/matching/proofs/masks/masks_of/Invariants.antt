-- `matching::masks::masks_of` meets its contract: in turn k the masks are those of the first k steps, which are at most 16.
use Rattle.std.proofs.Common.{◌≡◌, length}
use Rattle.shapes.specs.Shapes.{steps_in}
use Rattle.matching.specs.Masks.{MasksSoFar, with_far}
use Rattle.matching.proofs.masks.masks_of.Given as goal

abbrev pub invariant-loop-k : goal.invariant-loop-k
invariant-loop-k l = (length l.s-items ≡ l.fn.p.count) × MasksSoFar (steps_in l.fn.p) l.k (with_far l.m l.far)
