-- `routing::by_table::try_member` meets its contract: a member is tried, another is left.
use Rattle.std.proofs.Common.{◌∙◌, ap}
use Rattle.meaning.specs.Satisfying.{satisfies}
use Rattle.routing.specs.Tabling.{try_of_member, try_of_another}
use Rattle.routing.proofs.by_table.try_member.Goals as goal

pub returns-then-is_member : goal.returns-then-is_member
returns-then-is_member c =
    let tried = c.try_pattern.ensures in
    try_of_member _ _ _ _ c.is_member.ensures c.if-is_member.true (tried.0 ∙ ap (satisfies _) c.pattern.ensures.0, tried.1)

pub returns : goal.returns
returns c = try_of_another _ _ _ c.is_member.ensures c.if-is_member.false
