use Rattle.std.proofs.Common.{◌≡◌, ◌∙◌, length, sym, ap, arith}
use Rattle.meaning.specs.Building.{no_entry}
use Rattle.meaning.specs.Sections.{Entry}
use Rattle.shapes.specs.Shapes.{entry_of}
use Rattle.tables.specs.TableSection.{entry_taken}
use Rattle.fairness.specs.EntryMembers.{no_members, one_more}
use Rattle.fairness.proofs.take_members.Goals as goal

pub loop-j-init : goal.loop-j-init
loop-j-init c = no_members _ _ _ c.requires

pub loop-j-preserved : goal.loop-j-preserved
unfolding entry_of entry_taken
loop-j-preserved c =
    let here = (c.args.table.now.stand.taken c.loop-j.j no_entry (omega arith)).0 in
    one_more _ _ c.loop-j.j _ _ (omega arith) c.loop-j.invariant (c.members.ensures ∙ sym (ap (λ (e : Entry). e.members) here))

pub returns : goal.returns
returns c =
    let l = c.loop-j in
    let all : l.j ≡ length c.args.table.now.places.now = omega arith in
    rw all at l.invariant
