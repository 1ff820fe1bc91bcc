-- `cut` meets its contract: the steps but the last.
use Rattle.building.specs.Shortened.{cut_stands}
use Rattle.building.proofs.rounds.cut.Goals as goal

pub returns : goal.returns
returns c = rw c.saturating_sub.ensures (cut_stands c.args.p c.requires)
