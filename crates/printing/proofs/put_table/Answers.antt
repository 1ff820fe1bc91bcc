use Rattle.std.proofs.Common.{rules}
use Rattle.shapes.specs.Shapes.{well_formed_table}
use Rattle.shapes.specs.TableValues.{no_entry_value, length-entries, entry_held, entry-sound}
use Rattle.texts.specs.Puts.{puts_is, puts_then, puts_all, still-first, still-goes_on, still_none}
use Rattle.printing.specs.TableTexts.{entry_here, entries-end, table_text_lem}
use Rattle.printing.proofs.put_table.Goals as goal

pub loop-e-init : goal.loop-e-init
loop-e-init c = still-first _ _

pub put_entry-requires : goal.put_entry-requires
put_entry-requires c =
    let t = c.args.t in
    let sound = well_formed_table t in
    let i = c.loop-e.e-index in
    let there = rw (c.entries-e-items.ensures, length-entries t sound) at c.loop-e-test.true in
    rw (c.entries-e-items.ensures, entry_held t sound i no_entry_value there) (entry-sound t sound i no_entry_value there, c.requires)

pub loop-e-preserved : goal.loop-e-preserved
loop-e-preserved c =
    let t = c.args.t in
    let sound = well_formed_table t in
    let i = c.loop-e.e-index in
    let there = rw (c.entries-e-items.ensures, length-entries t sound) at c.loop-e-test.true in
    let put = rw (c.entries-e-items.ensures, entry_held t sound i no_entry_value there) at c.put_entry.ensures in
    still-goes_on c.loop-e.invariant _ (entry_here t sound _ _ i no_entry_value there) put

pub returns : goal.returns
returns c =
    let t = c.args.t in
    let sound = well_formed_table t in
    let none_left = rw (c.entries-e-items.ensures, length-entries t sound) at c.loop-e-test.false in
    let lines = still_none c.loop-e.invariant (entries-end t sound _ _ _ none_left) in
    let all = puts_is (table_text_lem t sound _ _ _ _ c.steps_together.ensures.0) (puts_then c.put_totals.ensures lines) in
    puts_all _ _ _ c.new-text.ensures.begins all (search rules)
