-- `documents::sheet_and_document` meets its contract.
use Rattle.std.proofs.lemmas.Result.{err_from_is_err_and}
use Rattle.base.specs.Loops.{and_then}
use Rattle.documents.specs.DocumentJudged.{sheet_document_place}
use Rattle.documents.proofs.sheet_and_document.Goals as goal

pub returns : goal.returns
unfolding sheet_document_place and_then
returns c = rw (← c.sheet.ensures, c.in_ok-sheet.was) c.document.ensures

pub returns-in_err-sheet : goal.returns-in_err-sheet
unfolding sheet_document_place and_then
returns-in_err-sheet c =
    let p = err_from_is_err_and c.from_residual.result c.from_residual.ensures.1 in
    rw (p.1, p.2, ← c.sheet.ensures, c.in_err-sheet.was)
