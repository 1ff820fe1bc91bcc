-- `tables::table` meets its contract.
use Prim.Native.Nat.{◌<◌, ◌≤◌}
use Rattle.std.proofs.Common.{length}
use Rattle.std.proofs.lemmas.Result.{err_from_is_err_and}
use Rattle.base.specs.Loops.{and_then}
use Rattle.base.specs.Choice.{picks}
use native.Mathlib.Omega.{arith}
use Rattle.tables.specs.TableSection.{table_section}
use Rattle.meaning.specs.Numbers.{most_entries}
use Rattle.tables.proofs.table.Goals as goal

pub returns-then-t-eq0 : goal.returns-then-t-eq0
unfolding table_section
returns-then-t-eq0 c =
    let none : length c.args.t.now ≤ 0 = omega arith in
    search picks depth 15

pub returns-then-n-gt-MOST_ENTRIES : goal.returns-then-n-gt-MOST_ENTRIES
unfolding table_section
returns-then-n-gt-MOST_ENTRIES c =
    let there : 0 < length c.args.t.now = omega arith in
    let over : most_entries < c.byte_at-n.result = omega arith in
    rw (← c.byte_at-n.ensures.0) (search picks depth 15)

pub returns : goal.returns
unfolding table_section and_then
returns c =
    let there : 0 < length c.args.t.now = omega arith in
    rw (
      ← c.byte_at-n.ensures.0,
      ← c.byte_at.ensures.0,
      ← c.entries_from.ensures,
      c.in_ok-y.was,
    )
    (search picks depth 15)

pub returns-in_err-y : goal.returns-in_err-y
unfolding table_section and_then
returns-in_err-y c =
    let p = err_from_is_err_and c.from_residual.result c.from_residual.ensures.1 in
    let there : 0 < length c.args.t.now = omega arith in
    rw (
      p.1,
      p.2,
      ← c.byte_at-n.ensures.0,
      ← c.byte_at.ensures.0,
      ← c.entries_from.ensures,
      c.in_err-y.was,
    )
    (search picks depth 15)
