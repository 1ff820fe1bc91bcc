-- `documents::label_check` meets its contract.
use Rattle.std.proofs.Common.{arith, sym, ◌∙◌}
use Rattle.std.proofs.lemmas.Result.{err_from_is_err_and}
use Rattle.documents.specs.LabelNumbers.{number_there, number_zero, number_over, number-refused}
use Rattle.documents.proofs.label_check.Goals as goal

pub returns-then-n-lt1 : goal.returns-then-n-lt1
returns-then-n-lt1 c = number_zero _ _ _ _ (sym c.sheet_and_document.ensures ∙ c.in_ok-sheet_and_document.was) (omega arith)

pub returns-then-all-n : goal.returns-then-all-n
returns-then-all-n c = number_over _ _ _ _ (sym c.sheet_and_document.ensures ∙ c.in_ok-sheet_and_document.was) (omega arith) (omega arith)

pub returns : goal.returns
returns c = number_there _ _ _ _ (sym c.sheet_and_document.ensures ∙ c.in_ok-sheet_and_document.was) (omega arith) (omega arith)

pub returns-in_err-sheet_and_document : goal.returns-in_err-sheet_and_document
returns-in_err-sheet_and_document c =
    let p = err_from_is_err_and c.from_residual.result c.from_residual.ensures.1 in
    rw (p.1, p.2) (number-refused _ _ _ _ (sym c.sheet_and_document.ensures ∙ c.in_err-sheet_and_document.was))
