-- `documents::label_bytes` meets its contract.
use native.Mathlib.Omega.{arith}
use mathlib.Core.Path.{sym, ◌∙◌}
use Rattle.documents.specs.LabelNumbers.{part_refused, part_zero, part_of_sheet, part_of_document, part_over}
use Rattle.documents.proofs.label_bytes.Goals as goal

pub returns-then-n-lt1 : goal.returns-then-n-lt1
returns-then-n-lt1 c =
    part_zero _ _ _ _ (sym c.sheet_and_document.ensures ∙ c.in-Ok.is) (omega arith)

pub returns-then-i-k : goal.returns-then-i-k
returns-then-i-k c =
    rw (c.text_at.ensures, c.after_labels.ensures.0)
    (part_of_sheet _ _ _ _ (sym c.sheet_and_document.ensures ∙ c.in-Ok.is) (omega arith) (omega arith))

pub returns-then-i-k-2 : goal.returns-then-i-k-2
returns-then-i-k-2 c =
    rw (c.text_at-then-i-k-2.ensures, c.after_labels-then-i-k-2.ensures.0, c.byte_at-k.ensures.0)
    (part_of_document _ _ _ _ (sym c.sheet_and_document.ensures ∙ c.in-Ok.is) (omega arith) (omega arith))

pub returns-else-i-k-2 : goal.returns-else-i-k-2
returns-else-i-k-2 c =
    part_over _ _ _ _ (sym c.sheet_and_document.ensures ∙ c.in-Ok.is) (omega arith) (omega arith)

pub returns-in-Err : goal.returns-in-Err
returns-in-Err c =
    part_refused _ _ _ _ (sym c.sheet_and_document.ensures ∙ c.in-Err.is)
