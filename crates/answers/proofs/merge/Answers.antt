-- `answers::merge` meets its contract: the sheet is judged first, and a refusal leaves the output as found.
use Rattle.base.specs.Exits.{exits}
use mathlib.Core.Path.{sym, ◌∙◌}
use Rattle.reading.specs.SheetJudged.{sheet-stands}
use Rattle.subscriptions.specs.Subscribed.{subscriptions_stand}
use Rattle.answers.specs.Says.{merge-said, merge-refused}
use Rattle.answers.specs.Outcome.{merge-refuses, merge-same}
use Rattle.answers.proofs.merge.Goals as goal

pub beside-requires : goal.beside-requires
beside-requires c =
    subscriptions_stand _ _ (sheet-stands _ _ (sym c.sheet.ensures ∙ c.in_ok-sheet.was)) c.subscriptions_in-subscriptions.ensures

pub returns : goal.returns
returns c =
    merge-same _ _ _ (merge-said _ _ _ _ (sym c.sheet.ensures ∙ c.in_ok-sheet.was)) _ _ (rw c.beside.ensures at c.merge_numbered.ensures)

pub returns-in_err-sheet : goal.returns-in_err-sheet
returns-in_err-sheet c =
    rw (exits _ _ c.from_residual.ensures.1) (merge-refuses _ _ _ (merge-refused _ _ _ _ (sym c.sheet.ensures ∙ c.in_err-sheet.was)))
