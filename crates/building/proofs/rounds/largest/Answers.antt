use Rattle.shapes.specs.Shapes.{well_formed_table}
use Rattle.shapes.specs.TableValues.{no_entry_value, length-entries, entry_held}
use Rattle.building.specs.Largest.{larger, not_larger, largest-ends}
use Rattle.building.proofs.rounds.largest.Goals as goal
use Rattle.building.proofs.rounds.largest.Goals.{then-t-i, else-t-i}

pub loop-j-preserved : goal.loop-j-preserved
loop-j-preserved c =
    let t = c.args.t.now in
    let s = well_formed_table t in
    let l = c.loop-j in
    let there = rw (c.entries-e-items.ensures, length-entries t s) at c.loop-j-test.true in
    let e = entry_held t s l.j no_entry_value there in
    elim c.if-t-i.branch [
      | then-t-i w ↦ rw w.i-is (larger l.invariant s there (rw (c.entries-e-items.ensures, e) at w.if-t-i.true))
      | else-t-i w ↦ rw w.i-is (not_larger l.invariant s there (rw (c.entries-e-items.ensures, e) at w.if-t-i.false))
    ]

pub returns : goal.returns
returns c =
    let s = well_formed_table c.args.t.now in
    let l = c.loop-j in
    let none_left = rw (c.entries-e-items.ensures, length-entries c.args.t.now s) at c.loop-j-test.false in
    (largest-ends l.invariant none_left, l.invariant.there)
