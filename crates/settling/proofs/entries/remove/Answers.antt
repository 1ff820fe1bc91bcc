-- `remove` meets its contract: the later entries are copied one place down.
use Prim.Native.Nat.{◌-◌}
use native.Mathlib.Omega.{arith}
use Rattle.shapes.specs.Shapes.{entries_in, table_of, well_formed_table}
use Rattle.shapes.specs.TableValues.{no_entry_value}
use Rattle.settling.specs.Removing.{moved_down, patterns-removed, table-removed}
use Rattle.settling.proofs.entries.remove.Goals as goal

pub invariant_of-t-clause-patterns : goal.invariant_of-t-clause-patterns
invariant_of-t-clause-patterns c =
    let t = c.args.t.now in
    let z = moved_down t.entries c.args.j t.count no_entry_value c.copy_within.new.self c.requires (omega (arith, t.few, t.full)) c.copy_within.ensures.after in
    patterns-removed t (well_formed_table t) c.args.j (t.count - 1) c.copy_within.new.self c.requires (omega (arith, c.requires)) z

pub returns : goal.returns
unfolding table_of entries_in
returns c =
    let t = c.args.t.now in
    let z = moved_down t.entries c.args.j t.count no_entry_value c.copy_within.new.self c.requires (omega (arith, t.few, t.full)) c.copy_within.ensures.after in
    table-removed t (well_formed_table t) c.args.j (t.count - 1) c.copy_within.new.self c.requires (omega (arith, c.requires)) z
