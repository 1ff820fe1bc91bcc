-- `merge_or_cut` meets its contract: the pair found is the definition's, and so is the merge, or the cut.
use mathlib.Core.Path.{◌∙◌}
use Rattle.shapes.specs.Shapes.{well_formed_table}
use Rattle.shapes.specs.TableValues.{no_entry_value, entry-sound}
use Rattle.building.specs.Changing.{change_cut, change_merge}
use Rattle.building.proofs.rounds.merge_or_cut.Goals as goal

pub merge-made-requires : goal.merge-made-requires
merge-made-requires c =
    let b = c.in-Some in
    (entry-sound _ (well_formed_table c.args.t) b.best.i no_entry_value b.ensures.there.0, entry-sound _ (well_formed_table c.args.t) b.best.j no_entry_value b.ensures.there.1)

pub returns-in-Some : goal.returns-in-Some
returns-in-Some c =
    let b = c.in-Some in
    c.join_at.ensures ∙ change_merge _ b.best (well_formed_table c.args.t) b.ensures.saves_most _ c.merge-made.ensures.pattern

pub returns-in-None : goal.returns-in-None
returns-in-None c = c.cut_largest.ensures ∙ change_cut _ c.in-None.ensures.saves_most
