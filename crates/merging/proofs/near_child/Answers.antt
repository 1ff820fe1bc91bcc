-- `merging::near_child` meets its contract: both tests.
use mathlib.Core.Path.{◌∙◌}
use borrow.Author.Tests.{ne_eqb}
use Rattle.merging.specs.PairWalk.{near_if, near_not}
use Rattle.merging.proofs.near_child.Goals as goal

pub returns-then-from-w : goal.returns-then-from-w
returns-then-from-w c = near_if c.args.s c.args.w (rw c.from.ensures at c.if-from-w.true)

pub returns-else-from-w : goal.returns-else-from-w
returns-else-from-w c = ne_eqb _ _ c.if-from-w.false ∙ near_not c.args.s c.args.w (rw c.from.ensures at c.if-from-w.false)
