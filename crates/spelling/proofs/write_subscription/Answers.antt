-- `spelling::write_subscription` meets its contract: the sheet is judged first, then the number is looked at, and a refusal leaves
-- the output as found.
use Rattle.base.specs.Exits.{exits}
use mathlib.Core.Path.{sym, ◌∙◌}
use Rattle.meaning.specs.LineCalls.{output_answer}
use Rattle.reading.specs.SheetJudged.{sheet-stands}
use Rattle.subscriptions.specs.Subscribed.{subscriptions_stand}
use Rattle.writing.specs.Gives.{gives-refusal, gives_same}
use Rattle.spelling.specs.TextSays.{asked_there, asked-not_there, subscription-said, subscription-refused}
use Rattle.spelling.proofs.write_subscription.Goals as goal

pub beside-requires : goal.beside-requires
beside-requires c =
    subscriptions_stand _ _ (sheet-stands _ _ (sym c.sheet.ensures ∙ c.in_ok-sheet.was)) c.subscriptions_in-subscriptions.ensures

pub write_line-requires : goal.write_line-requires
write_line-requires c = (sheet-stands _ _ (sym c.sheet.ensures ∙ c.in_ok-sheet.was), c.in_ok-p.ensures.2)

pub returns : goal.returns
returns c =
    let p = rw c.beside.ensures at c.in_ok-p.ensures in
    let said = subscription-said _ _ _ (sym c.sheet.ensures ∙ c.in_ok-sheet.was) in
    gives_same output_answer _ _ _ (asked_there _ _ p.0 _ p.1 ∙ said) _ _ c.write_line.ensures

pub returns-in_err-p : goal.returns-in_err-p
unfolding output_answer
returns-in_err-p c =
    let no = rw c.beside.ensures at c.in_err-p.ensures in
    let said = subscription-said _ _ _ (sym c.sheet.ensures ∙ c.in_ok-sheet.was) in
    rw (exits _ _ c.from_residual-in_err-p.ensures.1, no.1) (gives-refusal output_answer _ _ _ (asked-not_there _ _ no.0 ∙ said))

pub returns-in_err-sheet : goal.returns-in_err-sheet
unfolding output_answer
returns-in_err-sheet c =
    rw (exits _ _ c.from_residual.ensures.1) (gives-refusal output_answer _ _ _ (subscription-refused _ _ _ (sym c.sheet.ensures ∙ c.in_err-sheet.was)))
