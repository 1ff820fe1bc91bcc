-- `join_at` meets its contract: both sets of members stand at i, and j is removed.
use mathlib.Core.Path.{refl, ◌∙◌}
use Rattle.std.proofs.Common.{length-set}
use Rattle.shapes.specs.Shapes.{well_formed_table}
use Rattle.settling.specs.Placing.{put_patterns}
use Rattle.settling.specs.JoinedEntries.{both_joined}
use Rattle.settling.proofs.entries.join_at.Goals as goal

pub invariant_of-t-clause-patterns : goal.invariant_of-t-clause-patterns
invariant_of-t-clause-patterns c = put_patterns c.args.t (well_formed_table c.args.t) c.args.i _ c.requires.1 c.requires.0

pub invariant_of-t-clause-full : goal.invariant_of-t-clause-full
invariant_of-t-clause-full c = length-set c.args.t.entries c.args.i _ ∙ c.args.t.full

pub returns : goal.returns
returns c =
    c.remove.ensures
    ∙ both_joined c.args.t (well_formed_table c.args.t) c.args.p c.args.i c.args.j c.requires.1 c.requires.2 _ _ refl refl c.union-members.ensures refl
