-- `offering::branch` meets its contract: one step, and the block below its twin copied after it.
use native.Mathlib.Omega.{arith}
use Rattle.shapes.specs.Steps.{step_in, step-number}
use Rattle.offering.specs.Copying.{one_branch}
use Rattle.offering.proofs.branch.Goals as goal

pub returns : goal.returns
unfolding step_in
returns c =
    let is = step-number c.args.p c.requires.0 c.args.v (omega arith) (omega arith) in
    rw (← is) (one_branch _ _ _ _ _ (omega arith) c.one.ensures c.copied.ensures)
