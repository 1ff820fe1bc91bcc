-- `lines::drawn::near_root` meets its contract.
use mathlib.Core.Path.{refl}
use borrow.Author.Tests.{eq-eqb, ne_eqb}
use Rattle.meaning.specs.Sections.{near_root, is_near_root}
use Rattle.lines.proofs.drawn.near_root.Goals as goal

pub returns-then-x-eq0 : goal.returns-then-x-eq0
unfolding is_near_root near_root
returns-then-x-eq0 c = rw (eq-eqb _ 0 c.if-x-eq0.true) refl

pub returns-else-x-eq0 : goal.returns-else-x-eq0
unfolding is_near_root near_root
returns-else-x-eq0 c = rw (ne_eqb _ 0 c.if-x-eq0.false) refl
