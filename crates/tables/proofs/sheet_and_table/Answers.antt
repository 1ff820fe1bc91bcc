-- `tables::sheet_and_table` meets its contract.
use Rattle.std.proofs.lemmas.Result.{err_from_is_err_and}
use Rattle.base.specs.Loops.{and_then}
use Rattle.tables.specs.TableSection.{sheet_table_place}
use Rattle.tables.proofs.sheet_and_table.Goals as goal

pub returns : goal.returns
unfolding sheet_table_place and_then
returns c = rw (← c.sheet.ensures, c.in_ok-sheet.was) c.table.ensures

pub returns-in_err-sheet : goal.returns-in_err-sheet
unfolding sheet_table_place and_then
returns-in_err-sheet c =
    let p = err_from_is_err_and c.from_residual.result c.from_residual.ensures.1 in
    rw (p.1, p.2, ← c.sheet.ensures, c.in_err-sheet.was)
