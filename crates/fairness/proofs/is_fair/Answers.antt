-- `fairness::is_fair` meets its contract: the entries first, then each subscription.
use Rattle.fairness.specs.FairJudged.{not_fit, all_fit}
use Rattle.fairness.proofs.is_fair.Goals as goal

pub beside-sheet-requires : goal.beside-sheet-requires
beside-sheet-requires c = rw c.subscriptions_in-subscriptions.ensures c.requires.0

pub beside-table-requires : goal.beside-table-requires
beside-table-requires c = rw c.entries_in-entries.ensures c.requires.1

pub returns-then-not-all_fit : goal.returns-then-not-all_fit
returns-then-not-all_fit c =
    not_fit _ _ (rw c.beside-sheet.ensures at c.count.ensures.0) (rw c.beside-table.ensures at c.all_fit.ensures) c.if-not-all_fit.true

pub returns : goal.returns
returns c =
    all_fit _ _ (rw c.beside-sheet.ensures at c.count.ensures.0) (rw c.beside-table.ensures at c.all_fit.ensures) c.if-not-all_fit.false
    (rw (c.beside-sheet.ensures, c.beside-table.ensures) at c.all_stand.ensures)
