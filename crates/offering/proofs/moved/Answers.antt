-- `offering::moved` meets its contract: a child of v hangs on `top`, any other step on its parent moved with it.
use borrow.Author.Tests.{eq-eqb, ne_eqb}
use Rattle.base.specs.Choice.{pick}
use Rattle.offering.specs.Copying.{moved_step}
use Rattle.offering.proofs.moved.Goals as goal

pub returns-then-was-v : goal.returns-then-was-v
unfolding moved_step pick
returns-then-was-v c = rw (eq-eqb _ _ (rw c.from-was.ensures at c.if-was-v.true))

pub returns-else-was-v : goal.returns-else-was-v
unfolding moved_step pick
returns-else-was-v c = rw (c.from-was.ensures, ne_eqb _ _ (rw c.from-was.ensures at c.if-was-v.false))
