use native.Mathlib.Omega.{arith}
use Rattle.shapes.specs.Shapes.{well_formed_table}
use Rattle.shapes.specs.TableValues.{no_entry_value, length-entries, entry_held, entry-sound}
use Rattle.writing.specs.BytesWritten.{measuring_starts, measuring_goes_on, measuring_ends}
use Rattle.writing.proofs.table_length.Goals as goal

pub loop-e-init : goal.loop-e-init
loop-e-init c = measuring_starts _ (well_formed_table c.args.t.now)

pub pattern_length-requires : goal.pattern_length-requires
pattern_length-requires c =
    let t = c.args.t.now in
    let sound = well_formed_table t in
    let there = rw (c.entries-e-items.ensures, length-entries t sound) at c.loop-e-test.true in
    rw (c.entries-e-items.ensures, entry_held t sound c.loop-e.e-index no_entry_value there) (entry-sound t sound c.loop-e.e-index no_entry_value there)

pub loop-e-preserved : goal.loop-e-preserved
loop-e-preserved c =
    let t = c.args.t.now in
    let sound = well_formed_table t in
    let l = c.loop-e in
    let there = rw (c.entries-e-items.ensures, length-entries t sound) at c.loop-e-test.true in
    let long = rw (c.entries-e-items.ensures, entry_held t sound l.e-index no_entry_value there) at c.pattern_length.ensures in
    measuring_goes_on t sound l.invariant no_entry_value _ there long

pub returns : goal.returns
returns c =
    let sound = well_formed_table c.args.t.now in
    let none_left = rw (c.entries-e-items.ensures, length-entries c.args.t.now sound) at c.loop-e-test.false in
    (measuring_ends _ sound c.loop-e.invariant none_left, omega (arith, sound.few, c.loop-e.invariant.within, c.loop-e.invariant.small))
