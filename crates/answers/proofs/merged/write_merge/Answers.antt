-- `answers::merged::write_merge` meets its contract, where there is room and where there is none.
use mathlib.Core.Path.{refl}
use Rattle.base.specs.Exits.{exits}
use Rattle.writing.specs.Gives.{was_written, had_no_room}
use Rattle.answers.specs.Outcome.{merge-written, merge-no_room}
use Rattle.answers.proofs.merged.write_merge.Goals as goal

pub returns : goal.returns
returns c =
    let w = was_written _ _ _ _ c.in_ok-length.ensures in
    merge-written _ _ _ _ w.0 _ w.1 refl _ w.2

pub returns-in_err-length : goal.returns-in_err-length
returns-in_err-length c =
    let w = had_no_room _ _ _ _ c.in_err-length.ensures in
    rw (exits _ _ c.from_residual.ensures.1, w.2) (merge-no_room _ _ _ _ w.0 _ w.1 refl)
