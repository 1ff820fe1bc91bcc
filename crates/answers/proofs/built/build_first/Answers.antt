-- `answers::built::build_first` meets its contract: the build from one entry for each subscription, where there is room and where there is none.
use mathlib.Core.Path.{refl}
use Rattle.base.specs.Exits.{exits}
use Rattle.writing.specs.Gives.{was_written, had_no_room}
use Rattle.answers.specs.Outcome.{build_is, build-same, build-written, build-no_room}
use Rattle.answers.proofs.built.build_first.Goals as goal

pub returns : goal.returns
returns c =
    let b = c.build-made in
    let w = was_written _ _ _ _ c.in_ok-length.ensures in
    build-same _ _ _ (build_is _ _ _ b.result c.first_entries.ensures b.ensures.0 b.ensures.1) _ _ (build-written _ _ _ _ w.0 _ w.1 refl _ w.2)

pub returns-in_err-length : goal.returns-in_err-length
returns-in_err-length c =
    let b = c.build-made in
    let w = had_no_room _ _ _ _ c.in_err-length.ensures in
    rw (exits _ _ c.from_residual.ensures.1, w.2)
    (build-same _ _ _ (build_is _ _ _ b.result c.first_entries.ensures b.ensures.0 b.ensures.1) _ _ (build-no_room _ _ _ _ w.0 _ w.1 refl))
