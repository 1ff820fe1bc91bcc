use mathlib.Core.Path.{refl, ap}
use native.Mathlib.Omega.{arith}
use lib.ListN.{length, length-set}
use Rattle.base.specs.Storing.{left-first, turn-room, turn-goes_on, turns_end}
use Rattle.shapes.specs.Shapes.{well_formed_table}
use Rattle.shapes.specs.TableValues.{no_entry_value, entries_fit, length-entries, entry_held, entry-sound}
use Rattle.writing.specs.BytesWritten.{table_bytes_lem}
use Rattle.writing.proofs.put_table.Goals as goal

pub bounds-out-0 : goal.bounds-out-0
bounds-out-0 c = omega (arith, c.requires, ap length (table_bytes_lem _ (well_formed_table c.args.t.now)))

pub loop-e-init : goal.loop-e-init
loop-e-init c =
    let sound = well_formed_table c.args.t.now in
    let long = length-set c.args.out.now 0 c.args.t.now.count in
    record {
      fits = entries_fit _ sound;
      within = omega arith;
      left = left-first _ _ refl (omega (arith, ap length (table_bytes_lem _ sound))) (omega (arith, c.requires));
    }

pub put_entry-at-requires : goal.put_entry-at-requires
put_entry-at-requires c =
    let t = c.args.t.now in
    let sound = well_formed_table c.args.t.now in
    let i = c.loop-e.e-index in
    let there = rw (c.entries-e-items.ensures, length-entries t sound) at c.loop-e-test.true in
    rw (c.entries-e-items.ensures, entry_held t sound i no_entry_value there)
    (entry-sound t sound i no_entry_value there, turn-room c.loop-e.invariant no_entry_value there)

pub loop-e-preserved : goal.loop-e-preserved
loop-e-preserved c =
    let t = c.args.t.now in
    let sound = well_formed_table c.args.t.now in
    let there = rw (c.entries-e-items.ensures, length-entries t sound) at c.loop-e-test.true in
    let stored = rw (c.entries-e-items.ensures, entry_held t sound c.loop-e.e-index no_entry_value there) at c.put_entry-at.ensures in
    turn-goes_on c.loop-e.invariant no_entry_value there _ _ stored.1 stored.0

pub returns : goal.returns
returns c =
    let sound = well_formed_table c.args.t.now in
    let none_left = rw (c.entries-e-items.ensures, length-entries c.args.t.now sound) at c.loop-e-test.false in
    rw (table_bytes_lem _ sound) (turns_end c.loop-e.invariant none_left).1
