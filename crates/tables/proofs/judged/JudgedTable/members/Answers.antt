-- `tables::judged::JudgedTable::members` meets its contract: they stand first in the entry.
use Rattle.std.proofs.Common.{◌∙◌, ap, arith}
use Rattle.meaning.specs.Building.{no_entry}
use Rattle.meaning.specs.Sections.{Entry}
use Rattle.shapes.specs.Shapes.{entry_of}
use Rattle.tables.specs.TableSection.{entry_taken}
use Rattle.tables.proofs.judged.JudgedTable.members.Goals as goal

pub returns : goal.returns
unfolding entry_of entry_taken
returns c =
    let t = c.args.self.now.stand.taken c.args.j no_entry (omega arith) in
    c.members_at.ensures ∙ ap (λ (e : Entry). e.members) t.0
