-- `routing::wanting::seek_entry` meets its contract: the members follow where the entry matches.
use Rattle.shapes.specs.Shapes.{entry_of}
use Rattle.routing.specs.Wanting.{entry_then, entry_none}
use Rattle.routing.proofs.wanting.seek_entry.Goals as goal

pub returns-then-asked : goal.returns-then-asked
unfolding entry_of
returns-then-asked c =
    let tried = c.try_pattern-asked.ensures in
    entry_then _ _ (entry_of _) _ tried.0 tried.1 c.if-asked.true c.seek_members.ensures

pub returns : goal.returns
unfolding entry_of
returns c =
    let tried = c.try_pattern-asked.ensures in
    entry_none _ _ (entry_of _) _ tried.0 tried.1 c.if-asked.false
