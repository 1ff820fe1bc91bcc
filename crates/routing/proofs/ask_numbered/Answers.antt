-- `routing::ask_numbered` meets its contract: the pattern of that number, where there is one.
use Rattle.std.proofs.Common.{◌∙◌, ap, refl}
use Rattle.std.specs.Prelude.{Ok}
use Rattle.base.specs.Exits.{exits}
use Rattle.base.specs.Choice.{pick_true, pick_false}
use Rattle.meaning.specs.Satisfying.{satisfies}
use Rattle.routing.specs.Plain.{numbered_answer}
use Rattle.routing.proofs.ask_numbered.Goals as goal

pub returns : goal.returns
unfolding numbered_answer
returns c =
    let p = c.in_ok-p.ensures in
    pick_true _ _ _ _ p.0 (ap Ok (c.matches.ensures ∙ ap (satisfies _) p.1))

pub returns-in_err-p : goal.returns-in_err-p
unfolding numbered_answer
returns-in_err-p c =
    let no = c.in_err-p.ensures in
    rw (exits _ _ c.from_residual.ensures.1, no.1) (pick_false _ _ _ _ no.0 refl)
