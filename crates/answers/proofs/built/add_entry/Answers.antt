-- `answers::built::add_entry` meets its contract: the entry stands last.
use mathlib.Core.Path.{refl, ◌∙◌}
use Rattle.std.proofs.Common.{length-set}
use Rattle.shapes.specs.Shapes.{well_formed_table}
use Rattle.answers.specs.Growing.{grown-table, grown_patterns}
use Rattle.answers.proofs.built.add_entry.Goals as goal

pub invariant_of-t-clause-full : goal.invariant_of-t-clause-full
invariant_of-t-clause-full c = length-set c.args.t.now.entries c.args.t.now.count _ ∙ c.args.t.now.full

pub invariant_of-t-clause-patterns : goal.invariant_of-t-clause-patterns
invariant_of-t-clause-patterns c =
    let t = c.args.t.now in
    grown_patterns t (well_formed_table t) c.args.e c.requires.0 c.requires.1

pub returns : goal.returns
returns c =
    let t = c.args.t.now in
    (grown-table t (well_formed_table t) _ c.requires.0 _ refl refl, refl)
