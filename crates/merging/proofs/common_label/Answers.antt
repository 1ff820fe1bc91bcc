-- `merging::common_label` meets its contract: the same label, or any.
use borrow.Author.Tests.{eq-eqb, ne_eqb}
use Rattle.base.specs.Choice.{pick}
use Rattle.meaning.specs.Merging.{common_label}
use Rattle.merging.proofs.common_label.Goals as goal

pub returns-then-l-m : goal.returns-then-l-m
unfolding common_label pick
returns-then-l-m c = rw (eq-eqb c.args.l c.args.m c.if-l-m.true)

pub returns-else-l-m : goal.returns-else-l-m
unfolding common_label pick
returns-else-l-m c = rw (ne_eqb c.args.l c.args.m c.if-l-m.false)
