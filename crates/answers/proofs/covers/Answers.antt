-- `answers::covers` meets its contract: the sheet is judged first.
use Rattle.base.specs.Exits.{exits}
use mathlib.Core.Path.{sym, ◌∙◌}
use Rattle.reading.specs.SheetJudged.{sheet-stands}
use Rattle.subscriptions.specs.Subscribed.{subscriptions_stand}
use Rattle.answers.specs.Says.{covers-said, covers-refused}
use Rattle.answers.proofs.covers.Goals as goal

pub beside-requires : goal.beside-requires
beside-requires c =
    subscriptions_stand _ _ (sheet-stands _ _ (sym c.sheet.ensures ∙ c.in_ok-sheet.was)) c.subscriptions_in-subscriptions.ensures

pub returns : goal.returns
returns c =
    (rw c.beside.ensures at c.covers_numbered.ensures) ∙ covers-said _ _ _ _ (sym c.sheet.ensures ∙ c.in_ok-sheet.was)

pub returns-in_err-sheet : goal.returns-in_err-sheet
returns-in_err-sheet c =
    rw (exits _ _ c.from_residual.ensures.1) (covers-refused _ _ _ _ (sym c.sheet.ensures ∙ c.in_err-sheet.was))
