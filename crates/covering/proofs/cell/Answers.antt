-- `cell` meets its contract.
use borrow.Author.Rules.{rules}
use Rattle.covering.specs.PairNotes.{cell_of}
use Rattle.covering.proofs.cell.Goals as goal

pub returns : goal.returns
unfolding cell_of
returns c = search rules
