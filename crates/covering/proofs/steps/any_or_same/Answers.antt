-- `steps::any_or_same` meets its contract.
use borrow.Author.Tests.{eq-eqb, ne_eqb}
use Rattle.meaning.specs.Satisfying.{any_or_same}
use Rattle.covering.proofs.steps.any_or_same.Goals as goal

pub returns-then-l-eq0 : goal.returns-then-l-eq0
unfolding any_or_same
returns-then-l-eq0 c = rw (eq-eqb c.args.l 0 c.if-l-eq0.true)

pub returns-else-l-eq0 : goal.returns-else-l-eq0
unfolding any_or_same
returns-else-l-eq0 c = rw (ne_eqb c.args.l 0 c.if-l-eq0.false)
