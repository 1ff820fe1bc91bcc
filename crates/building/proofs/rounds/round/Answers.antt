-- `round` meets its contract: a merge or a cut, then settling.
use mathlib.Core.Path.{◌∙◌, ap}
use Rattle.meaning.specs.Building.{settle, round}
use Rattle.building.proofs.rounds.round.Goals as goal

pub returns : goal.returns
unfolding round
returns c = c.settle.ensures ∙ ap settle c.merge_or_cut-changed.ensures
