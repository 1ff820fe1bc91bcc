-- `writing::put_entry` meets its contract: the members stand first, and the pattern eight bytes behind.
use native.Mathlib.Omega.{arith}
use Rattle.writing.specs.BytesWritten.{entry_length, entry_stored}
use Rattle.writing.proofs.put_entry.Goals as goal

pub put_members-requires : goal.put_members-requires
put_members-requires c =
    omega (arith, c.requires.1, entry_length c.args.e)

pub put_pattern-requires : goal.put_pattern-requires
put_pattern-requires c =
    (c.requires.0, omega (arith, c.requires.1, entry_length c.args.e, c.put_members.auto.out))

pub returns : goal.returns
returns c =
    let pattern = c.put_pattern.ensures in
    let e = c.args.e in
    (omega (arith, pattern.0, entry_length e), rw (pattern.1, c.put_members.ensures) (entry_stored e _ _))
