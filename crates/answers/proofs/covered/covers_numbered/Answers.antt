-- `answers::covered::covers_numbered` meets its contract: both numbers are looked at first.
use Rattle.base.specs.Exits.{exits}
use Rattle.answers.specs.Says.{both_asked, first_unasked, second_unasked, covers_there, covers-not_there}
use Rattle.answers.proofs.covered.covers_numbered.Goals as goal

pub returns-in_err-p : goal.returns-in_err-p
returns-in_err-p c =
    let no = c.in_err-p.ensures in
    rw (exits _ _ c.from_residual.ensures.1, no.1) (covers-not_there _ _ _ (first_unasked _ _ _ no.0))

pub returns-in_err-q : goal.returns-in_err-q
returns-in_err-q c =
    let no = c.in_err-q.ensures in
    rw (exits _ _ c.from_residual-in_err-q.ensures.1, no.1) (covers-not_there _ _ _ (second_unasked _ _ _ no.0))

pub returns : goal.returns
returns c =
    let p = c.in_ok-p.ensures in
    let q = c.in_ok-q.ensures in
    covers_there _ _ _ _ _ _ (both_asked _ _ _ p.0 q.0) p.1 q.1 c.covers.ensures
