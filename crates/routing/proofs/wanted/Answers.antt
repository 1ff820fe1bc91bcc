-- `routing::wanted` meets its contract: what was sought, without the tries.
use Rattle.std.proofs.Common.{ap, sym, ◌∙◌}
use Rattle.std.proofs.lemmas.Result.{err_from_is_err_and}
use Rattle.routing.specs.Sought.{without_tries, sought_wanted}
use Rattle.routing.proofs.wanted.Goals as goal

pub returns : goal.returns
unfolding without_tries
returns c = ap without_tries (sym c.in_ok-asked.was ∙ c.seek.ensures) ∙ sought_wanted _ _ _

pub returns-in_err-asked : goal.returns-in_err-asked
unfolding without_tries
returns-in_err-asked c =
    let p = err_from_is_err_and c.from_residual.result c.from_residual.ensures.1 in
    rw (p.1, p.2) (ap without_tries (sym c.in_err-asked.was ∙ c.seek.ensures) ∙ sought_wanted _ _ _)
