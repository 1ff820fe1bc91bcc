-- `tables::entry` meets its contract.
use mathlib.Core.Path.{sym, ◌∙◌}
use borrow.Author.Tests.{leb-true}
use Rattle.tables.specs.TableSection.{entry_section}
use Rattle.base.specs.Choice.{picks}
use native.Mathlib.Omega.{arith}
use Rattle.tables.proofs.entry.Goals as goal

pub overflow_add-x : goal.overflow_add-x
overflow_add-x c =
    let room = sym c.enough.ensures ∙ c.if-enough.true in
    omega (arith, leb-true)

pub returns-then-enough : goal.returns-then-enough
unfolding entry_section
returns-then-enough c = rw (← c.enough.ensures) (search picks depth 15)

pub returns : goal.returns
unfolding entry_section
returns c = rw (← c.enough.ensures) (search picks depth 15)
