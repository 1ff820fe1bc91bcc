-- `documents::document_check` meets its contract.
use Rattle.std.proofs.Common.{ap, sym, ◌∙◌}
use Rattle.std.proofs.lemmas.Result.{err_from_is_err_and}
use Rattle.places.specs.Bytes.{number_at}
use Rattle.documents.specs.DocumentJudged.{document_number_lem}
use Rattle.documents.proofs.document_check.Goals as goal

pub returns : goal.returns
unfolding number_at
returns c = ap number_at (sym c.in_ok-sheet_and_document.was ∙ c.sheet_and_document.ensures) ∙ document_number_lem _ _

pub returns-in_err-sheet_and_document : goal.returns-in_err-sheet_and_document
unfolding number_at
returns-in_err-sheet_and_document c =
    let p = err_from_is_err_and c.from_residual.result c.from_residual.ensures.1 in
    rw (p.1, p.2) (ap number_at (sym c.in_err-sheet_and_document.was ∙ c.sheet_and_document.ensures) ∙ document_number_lem _ _)
