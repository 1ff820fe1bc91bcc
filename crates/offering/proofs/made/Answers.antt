-- `offering::made` meets its contract: one step, and what was built copied below it.
use mathlib.Core.Path.{refl}
use native.Mathlib.Omega.{arith}
use Rattle.meaning.specs.Forest.{axis_of}
use Rattle.shapes.specs.Steps.{root-children}
use Rattle.offering.specs.Copying.{one_branch}
use Rattle.offering.proofs.made.Goals as goal

pub returns : goal.returns
unfolding axis_of
returns c =
    let kids_are = root-children c.args.built.pattern in
    record { stands = rw (← kids_are) (one_branch _ _ 0 _ _ (omega arith) c.one.ensures c.copied.ensures); mark = refl }
