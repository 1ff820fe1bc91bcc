-- `fairness::fair_table` meets its contract: the bytes of both first, 12 last.
use Rattle.std.proofs.lemmas.Result.{err_from_is_err_and}
use mathlib.Core.Path.{refl, sym, ◌∙◌}
use Rattle.fairness.specs.FairJudged.{sheet-table-stand, place-fair, place-not_fair, place-refused}
use Rattle.fairness.proofs.fair_table.Goals as goal

pub is_fair-requires : goal.is_fair-requires
is_fair-requires c =
    sheet-table-stand _ _ (sym c.sheet_and_table.ensures ∙ c.in_ok-x.was) refl refl

pub returns-then-is_fair : goal.returns-then-is_fair
returns-then-is_fair c =
    place-fair _ _ (sym c.sheet_and_table.ensures ∙ c.in_ok-x.was) c.is_fair.ensures c.if-is_fair.true

pub returns : goal.returns
returns c =
    place-not_fair _ _ (sym c.sheet_and_table.ensures ∙ c.in_ok-x.was) c.is_fair.ensures c.if-is_fair.false

pub returns-in_err-x : goal.returns-in_err-x
returns-in_err-x c =
    let p = err_from_is_err_and c.from_residual.result c.from_residual.ensures.1 in
    rw (p.1, p.2) (place-refused _ _ (sym c.sheet_and_table.ensures ∙ c.in_err-x.was))
