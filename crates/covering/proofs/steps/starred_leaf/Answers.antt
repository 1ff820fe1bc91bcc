-- `steps::starred_leaf` meets its contract.
use borrow.Author.Tests.{eq-eqb, ne_eqb}
use Rattle.meaning.specs.Covering.{starred_leaf}
use Rattle.covering.proofs.steps.starred_leaf.Goals as goal

pub returns-then-s-eq0 : goal.returns-then-s-eq0
unfolding starred_leaf
returns-then-s-eq0 c = rw (eq-eqb c.args.s.label 0 c.if-s-eq0.true)

pub returns-else-s-eq0 : goal.returns-else-s-eq0
unfolding starred_leaf
returns-else-s-eq0 c = rw (ne_eqb c.args.s.label 0 c.if-s-eq0.false)
