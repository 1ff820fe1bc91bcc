use Rattle.std.proofs.Common.{arith}
use Rattle.shapes.specs.Shapes.{well_formed_table}
use Rattle.shapes.specs.TableValues.{no_entry_value, length-entries, entry_held, entry-sound}
use Rattle.shapes.specs.Summing.{sum_starts, sum-goes_on, sum-ends}
use Rattle.shapes.proofs.Table.steps_together.Goals as goal

pub loop-e-init : goal.loop-e-init
loop-e-init c = sum_starts c.args.self.now

pub overflow_add-n : goal.overflow_add-n
overflow_add-n c =
    let t = c.args.self.now in
    let s = well_formed_table t in
    let i = c.loop-e.e-index in
    let there = rw (c.entries-e-items.ensures, length-entries t s) at c.loop-e-test.true in
    rw (c.entries-e-items.ensures, entry_held t s i no_entry_value there)
    (omega (arith, (entry-sound t s i no_entry_value there).few, c.loop-e.invariant.few, t.few))

pub loop-e-preserved : goal.loop-e-preserved
loop-e-preserved c =
    let t = c.args.self.now in
    let s = well_formed_table t in
    let l = c.loop-e in
    let there = rw (c.entries-e-items.ensures, length-entries t s) at c.loop-e-test.true in
    rw (c.entries-e-items.ensures, entry_held t s l.e-index no_entry_value there)
    (sum-goes_on t l.e-index l.n s there l.invariant)

pub returns : goal.returns
returns c =
    let t = c.args.self.now in
    let s = well_formed_table t in
    let l = c.loop-e in
    let none_left = rw (c.entries-e-items.ensures, length-entries t s) at c.loop-e-test.false in
    (sum-ends t l.e-index l.n s (omega arith) l.invariant, omega (arith, l.invariant.few, l.invariant.reached, t.few))
