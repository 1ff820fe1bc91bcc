-- `saves` meets its contract: sizes are counts.
use mathlib.Core.Path.{◌∙◌}
use Rattle.building.specs.Saving.{saved_counts}
use Rattle.building.proofs.rounds.saves.Goals as goal

pub returns : goal.returns
returns c =
    let r = c.merge in
    c.saturating_sub.ensures
    ∙ saved_counts c.args.p c.args.q r.result.pattern c.requires.0 c.requires.1 r.ensures.sound r.ensures.pattern
