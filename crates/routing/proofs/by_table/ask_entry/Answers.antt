-- `routing::by_table::ask_entry` meets its contract: the members follow where the entry matches.
use Rattle.shapes.specs.Shapes.{entry_of}
use Rattle.routing.specs.Tabling.{entry-matches, entry_fails}
use Rattle.routing.proofs.by_table.ask_entry.Goals as goal

pub returns-then-asked : goal.returns-then-asked
unfolding entry_of
returns-then-asked c =
    let tried = c.try_pattern-asked.ensures in
    entry-matches _ _ (entry_of _) _ tried.0 tried.1 c.if-asked.true c.ask_members.ensures

pub returns : goal.returns
unfolding entry_of
returns c =
    let tried = c.try_pattern-asked.ensures in
    entry_fails _ _ (entry_of _) _ tried.0 tried.1 c.if-asked.false
