-- `documents::node_parent` meets its contract.
use borrow.Author.Tests.{eq-eqb, ne_eqb, le-leb, lt-leb}
use Rattle.base.specs.Choice.{pick}
use Rattle.meaning.specs.Sections.{node_parent}
use Rattle.documents.proofs.node_parent.Goals as goal

pub returns-then-k-eq1 : goal.returns-then-k-eq1
unfolding node_parent pick
returns-then-k-eq1 c = rw (eq-eqb _ _ c.if-k-eq1.true)

pub returns-then-p-lt1 : goal.returns-then-p-lt1
unfolding node_parent pick
returns-then-p-lt1 c = rw (ne_eqb _ _ c.if-k-eq1.false, lt-leb _ _ c.if-p-lt1.true)

pub returns : goal.returns
unfolding node_parent pick
returns c = rw (ne_eqb _ _ c.if-k-eq1.false, le-leb _ _ c.if-p-lt1.false)
