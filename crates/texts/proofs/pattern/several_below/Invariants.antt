-- `texts::pattern::several_below` meets its contract. The loop: the branches counted and those still to come are all.
use Rattle.std.proofs.Common.{◌≡◌, ◌+◌, ◌≤◌}
use Rattle.laws.specs.Children.{children_from, children_of}
use Rattle.shapes.specs.Shapes.{steps_in}
use Rattle.texts.specs.BranchTexts.{branches}
use Rattle.texts.proofs.pattern.several_below.Given as goal

abbrev pub invariant-loop-k : goal.invariant-loop-k
invariant-loop-k l = (l.n ≤ l.k) × (l.n + branches (children_from (steps_in l.p) l.v l.k) ≡ branches (children_of (steps_in l.p) l.v))
