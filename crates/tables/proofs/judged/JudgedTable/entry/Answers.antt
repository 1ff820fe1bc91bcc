-- `tables::judged::JudgedTable::entry` meets its contract: what stands at the place of an entry is that entry.
use Rattle.std.proofs.Common.{◌∙◌, ap, arith}
use Rattle.meaning.specs.Building.{no_entry}
use Rattle.shapes.specs.Shapes.{entry_of}
use Rattle.tables.proofs.judged.JudgedTable.entry.Goals as goal

pub returns : goal.returns
returns c =
    let t = c.args.self.now.stand.taken c.args.j no_entry (omega arith) in
    (ap entry_of c.entry_at.ensures ∙ t.0, rw c.entry_at.ensures t.1)
