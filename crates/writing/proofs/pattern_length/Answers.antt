-- `writing::pattern_length` meets its contract: one byte of count and three a step.
use native.Mathlib.Omega.{arith}
use Rattle.writing.specs.BytesWritten.{pattern_length_lem}
use Rattle.writing.proofs.pattern_length.Goals as goal

pub returns : goal.returns
returns c = let e = pattern_length_lem _ c.requires in (omega arith, omega (arith, c.requires.few))
