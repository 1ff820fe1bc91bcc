-- `fairness::weigh` meets its contract: one that has the subscription counts, another is passed over.
use Rattle.std.proofs.Common.{◌∙◌, ap, true, false, inl, inr}
use Rattle.base.specs.Choice.{pick}
use Rattle.meaning.specs.Covering.{covers}
use Rattle.meaning.specs.Sections.{Entry}
use Rattle.shapes.specs.Shapes.{pattern_of, entry_of}
use Rattle.fairness.specs.Weighing.{weigh_passes, weigh_again, weigh-first}
use Rattle.fairness.proofs.weigh.Goals as goal

pub returns-then-not-is_member : goal.returns-then-not-is_member
returns-then-not-is_member c =
    weigh_passes _ _ _ _ c.requires.1 c.is_member.ensures c.if-not-is_member.true

pub returns-then-covers : goal.returns-then-covers
unfolding entry_of pick
returns-then-covers c =
    let said = c.covers.ensures ∙ ap (λ (e : Entry). covers e.pattern (pattern_of c.args.p)) c.entry.ensures.0 in
    weigh-first _ _ _ _ c.requires.1 c.is_member.ensures c.if-not-is_member.false c.in-Nowhere.is true said c.if-covers.true

pub returns-else-covers : goal.returns-else-covers
unfolding entry_of pick
returns-else-covers c =
    let said = c.covers.ensures ∙ ap (λ (e : Entry). covers e.pattern (pattern_of c.args.p)) c.entry.ensures.0 in
    weigh-first _ _ _ _ c.requires.1 c.is_member.ensures c.if-not-is_member.false c.in-Nowhere.is false said c.if-covers.false

pub returns-in-Covered : goal.returns-in-Covered
returns-in-Covered c =
    weigh_again _ _ _ _ c.requires.1 c.is_member.ensures c.if-not-is_member.false
    (λ e. elim c.in-Covered.is [ inl h ↦ cc | inr h ↦ cc ])
