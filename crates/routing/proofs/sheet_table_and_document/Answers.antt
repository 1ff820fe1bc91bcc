-- `routing::sheet_table_and_document` meets its contract.
use Rattle.std.proofs.lemmas.Result.{err_from_is_err_and}
use Rattle.base.specs.Loops.{and_then}
use Rattle.routing.specs.ThreeJudged.{three_place}
use Rattle.routing.proofs.sheet_table_and_document.Goals as goal

pub returns : goal.returns
unfolding three_place and_then
returns c = rw (← c.fair_table.ensures, c.in_ok-fair_table.was) c.document.ensures

pub returns-in_err-fair_table : goal.returns-in_err-fair_table
unfolding three_place and_then
returns-in_err-fair_table c =
    let p = err_from_is_err_and c.from_residual.result c.from_residual.ensures.1 in
    rw (p.1, p.2, ← c.fair_table.ensures, c.in_err-fair_table.was)
