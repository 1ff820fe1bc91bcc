-- `fairness::table_check` meets its contract: the number of the place that was reached.
use Rattle.std.proofs.Common.{ap, sym, ◌∙◌}
use Rattle.std.proofs.lemmas.Result.{err_from_is_err_and}
use Rattle.places.specs.Bytes.{number_at}
use Rattle.fairness.specs.FairJudged.{table_number_lem}
use Rattle.fairness.proofs.table_check.Goals as goal

pub returns : goal.returns
unfolding number_at
returns c = ap number_at (sym c.in_ok-fair_table.was ∙ c.fair_table.ensures) ∙ table_number_lem _ _

pub returns-in_err-fair_table : goal.returns-in_err-fair_table
unfolding number_at
returns-in_err-fair_table c =
    let p = err_from_is_err_and c.from_residual.result c.from_residual.ensures.1 in
    rw (p.1, p.2) (ap number_at (sym c.in_err-fair_table.was ∙ c.fair_table.ensures) ∙ table_number_lem _ _)
