-- `reading::sheet` meets its contract.
use Rattle.base.specs.Exits.{exits}
use Rattle.base.specs.Choice.{pick}
use Rattle.base.specs.Loops.{and_then}
use Rattle.std.proofs.Common.{arith, length, lt-ltb, le-ltb}
use Rattle.reading.specs.SheetSection.{sheet_section, patterns_to_end}
use Rattle.reading.proofs.sheet.Goals as goal

pub returns-then-s-eq0 : goal.returns-then-s-eq0
unfolding sheet_section pick
returns-then-s-eq0 c = rw (le-ltb 0 (length c.args.s.now) (omega arith))

pub returns : goal.returns
unfolding sheet_section patterns_to_end and_then pick
returns c =
    rw (
      lt-ltb 0 (length c.args.s.now) (omega arith),
      ← c.byte_at-n.ensures.0,
      ← c.labels.ensures,
      c.in_ok-x.was,
      ← c.patterns.ensures,
      c.in_ok-y.was,
    )
    c.end.ensures

pub returns-in_err-y : goal.returns-in_err-y
unfolding sheet_section patterns_to_end and_then pick
returns-in_err-y c =
    rw (
      exits _ _ c.from_residual-in_err-y.ensures.1,
      lt-ltb 0 (length c.args.s.now) (omega arith),
      ← c.byte_at-n.ensures.0,
      ← c.labels.ensures,
      c.in_ok-x.was,
      ← c.patterns.ensures,
      c.in_err-y.was,
    )

pub returns-in_err-x : goal.returns-in_err-x
unfolding sheet_section and_then pick
returns-in_err-x c =
    rw (
      exits _ _ c.from_residual.ensures.1,
      lt-ltb 0 (length c.args.s.now) (omega arith),
      ← c.byte_at-n.ensures.0,
      ← c.labels.ensures,
      c.in_err-x.was,
    )
