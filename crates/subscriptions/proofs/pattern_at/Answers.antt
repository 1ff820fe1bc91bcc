-- `subscriptions::pattern_at` meets its contract.
use Rattle.subscriptions.specs.Taken.{pattern_at}
use Rattle.base.specs.Choice.{picks}
use Rattle.subscriptions.proofs.pattern_at.Goals as goal

pub returns-then-s-x : goal.returns-then-s-x
unfolding pattern_at
returns-then-s-x c = search picks depth 15

pub returns-then-n-gt-MOST_STEPS : goal.returns-then-n-gt-MOST_STEPS
unfolding pattern_at
returns-then-n-gt-MOST_STEPS c = rw (← c.from-n.ensures) (search picks depth 15)

pub returns-then-s-x-2 : goal.returns-then-s-x-2
unfolding pattern_at
returns-then-s-x-2 c = rw (← c.from-n.ensures) (search picks depth 15)

pub returns : goal.returns
unfolding pattern_at
returns c = rw (← c.from-n.ensures, ← c.steps_at.ensures) (search picks depth 15)
