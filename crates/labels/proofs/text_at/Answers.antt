-- `labels::text_at` meets its contract.
use native.Mathlib.Omega.{arith}
use Rattle.labels.specs.LabelLoops.{text_none, text-short, text-whole}
use Rattle.labels.proofs.text_at.Goals as goal

pub returns-then-s-p : goal.returns-then-s-p
returns-then-s-p c = text_none _ _ (omega arith)

pub returns-then-s-from : goal.returns-then-s-from
returns-then-s-from c = text-short _ _ _ c.byte_at-long.ensures.0 (omega arith)

pub returns : goal.returns
returns c = text-whole _ _ _ c.byte_at-long.ensures.0
