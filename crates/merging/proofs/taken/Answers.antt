-- `merging::taken` meets its contract: the branch is the body, and nothing was left out.
use mathlib.Core.Path.{refl}
use Rattle.meaning.specs.Forest.{axis_of}
use Rattle.merging.specs.Bodies.{body_at}
use Rattle.merging.proofs.taken.Goals as goal

pub returns : goal.returns
unfolding body_at axis_of
returns c = record { stands = c.branch-p.ensures; mark = refl }
