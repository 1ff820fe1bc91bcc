-- `answers::merged::merge_numbered` meets its contract: both numbers are looked at first, and a refusal leaves the output as found.
use Rattle.base.specs.Exits.{exits}
use Rattle.answers.specs.Says.{both_asked, first_unasked, second_unasked}
use Rattle.answers.specs.Outcome.{merge_is, merge-not_there, merge-refuses, merge-same}
use Rattle.answers.proofs.merged.merge_numbered.Goals as goal

pub returns-in_err-p : goal.returns-in_err-p
returns-in_err-p c =
    let no = c.in_err-p.ensures in
    rw (exits _ _ c.from_residual.ensures.1, no.1) (merge-refuses _ _ _ (merge-not_there _ _ _ (first_unasked _ _ _ no.0)))

pub returns-in_err-q : goal.returns-in_err-q
returns-in_err-q c =
    let no = c.in_err-q.ensures in
    rw (exits _ _ c.from_residual-in_err-q.ensures.1, no.1) (merge-refuses _ _ _ (merge-not_there _ _ _ (second_unasked _ _ _ no.0)))

pub returns : goal.returns
returns c =
    let p = c.in_ok-p.ensures in
    let q = c.in_ok-q.ensures in
    let is = merge_is _ _ _ _ _ _ (both_asked _ _ _ p.0 q.0) p.1 q.1 c.merge.ensures in
    merge-same _ _ _ is _ _ c.write_merge.ensures
