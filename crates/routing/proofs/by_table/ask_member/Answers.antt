-- `routing::by_table::ask_member` meets its contract: what is tried is marked.
use Rattle.routing.specs.Tabling.{tried-marked}
use Rattle.routing.proofs.by_table.ask_member.Goals as goal

pub returns : goal.returns
returns c = tried-marked _ _ _ _ c.try_member-asked.ensures c.mark-set.ensures
