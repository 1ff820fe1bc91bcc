use native.Mathlib.Omega.{arith}
use Rattle.shapes.specs.Shapes.{well_formed_table}
use Rattle.shapes.specs.TableValues.{no_entry_value, length-table, entry-sound}
use Rattle.settling.specs.Settled.{search_ends}
use Rattle.settling.specs.SettlingLoop.{row_passed, one_less, goes_on-same, goes_on-higher}
use Rattle.settling.proofs.settle.Goals as goal

pub first_covered-requires : goal.first_covered-requires
first_covered-requires c =
    let l = c.loop-i in
    (omega arith, omega (arith, l.invariant.from, length-table l.t (well_formed_table l.t)))

pub join_at-t-requires : goal.join_at-t-requires
join_at-t-requires c =
    let l = c.loop-i in
    (entry-sound l.t (well_formed_table l.t) l.i no_entry_value (omega arith), omega arith, c.in-Some.ensures.1)

-- an entry less counts two, a row higher only one
pub loop-i-smaller-then-j-i : goal.loop-i-smaller-then-j-i
loop-i-smaller-then-j-i c =
    let l = c.loop-i in
    let r = c.in-Some.ensures in
    omega (arith, one_less (well_formed_table l.t) l.invariant (omega arith) r.0 r.1 (well_formed_table c.join_at-t.result) c.join_at-t.ensures)

pub loop-i-preserved-then-j-i : goal.loop-i-preserved-then-j-i
loop-i-preserved-then-j-i c =
    let l = c.loop-i in
    let r = c.in-Some.ensures in
    goes_on-higher (well_formed_table l.t) l.invariant (omega arith) r.0 r.1 (well_formed_table c.join_at-t.result) c.join_at-t.ensures (omega arith)

pub loop-i-smaller-else-j-i : goal.loop-i-smaller-else-j-i
loop-i-smaller-else-j-i c =
    let l = c.loop-i in
    let r = c.in-Some.ensures in
    omega (arith, one_less (well_formed_table l.t) l.invariant (omega arith) r.0 r.1 (well_formed_table c.join_at-t.result) c.join_at-t.ensures)

pub loop-i-preserved-else-j-i : goal.loop-i-preserved-else-j-i
loop-i-preserved-else-j-i c =
    let l = c.loop-i in
    let r = c.in-Some.ensures in
    goes_on-same (well_formed_table l.t) l.invariant (omega arith) r.0 r.1 (well_formed_table c.join_at-t.result) c.join_at-t.ensures (omega arith)

pub loop-i-preserved : goal.loop-i-preserved
loop-i-preserved c =
    let l = c.loop-i in
    row_passed (well_formed_table l.t) l.invariant (omega arith) c.in_default.ensures (omega arith)

pub returns : goal.returns
returns c =
    let l = c.loop-i in
    search_ends l.invariant (omega (arith, length-table l.t (well_formed_table l.t)))
