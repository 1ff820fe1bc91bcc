-- `lies_at` meets its contract: as known, or else what the children answer.
use native.Mathlib.Omega.{arith}
use Rattle.shapes.specs.Steps.{step_in}
use Rattle.covering.specs.PairNotes.{known-lies, unknown_decides}
use Rattle.covering.specs.LayingLoops.{label_and_children}
use Rattle.covering.proofs.lies_at.Goals as goal

pub returns-in-Some : goal.returns-in-Some
unfolding step_in
returns-in-Some c =
    let h = c.requires.0 in
    let lies = known-lies h c.args.v c.args.w (omega arith) _ c.in-Some.ensures in
    (label_and_children h.first h.second _ _ c.requires.1 c.requires.2 c.requires.3 c.requires.4 c.any_or_same.ensures lies, h)

pub returns-in-None : goal.returns-in-None
unfolding step_in
returns-in-None c =
    let h = c.requires.0 in
    let r = unknown_decides c.all_lie.ensures.1 c.args.v c.args.w (omega arith) _ _ c.in-None.ensures c.all_lie.ensures.0 c.note.ensures in
    (label_and_children h.first h.second _ _ c.requires.1 c.requires.2 c.requires.3 c.requires.4 c.any_or_same.ensures r.0, r.1)
