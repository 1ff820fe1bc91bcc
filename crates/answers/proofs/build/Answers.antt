-- `answers::build` meets its contract: the sheet is judged first, and a refusal leaves the output as found.
use Rattle.base.specs.Exits.{exits}
use mathlib.Core.Path.{sym, ◌∙◌}
use Rattle.reading.specs.SheetJudged.{sheet-stands}
use Rattle.subscriptions.specs.Subscribed.{subscriptions_stand}
use Rattle.answers.specs.Says.{build-said, build-refused}
use Rattle.answers.specs.Outcome.{build-refuses, build-same}
use Rattle.answers.proofs.build.Goals as goal

pub beside-requires : goal.beside-requires
beside-requires c =
    subscriptions_stand _ _ (sheet-stands _ _ (sym c.sheet.ensures ∙ c.in_ok-sheet.was)) c.subscriptions_in-subscriptions.ensures

pub returns : goal.returns
returns c =
    build-same _ _ _ (build-said _ _ _ (sym c.sheet.ensures ∙ c.in_ok-sheet.was)) _ _ (rw c.beside.ensures at c.build_first.ensures)

pub returns-in_err-sheet : goal.returns-in_err-sheet
returns-in_err-sheet c =
    rw (exits _ _ c.from_residual.ensures.1) (build-refuses _ _ _ (build-refused _ _ _ (sym c.sheet.ensures ∙ c.in_err-sheet.was)))
