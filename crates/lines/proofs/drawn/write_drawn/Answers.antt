-- `lines::drawn::write_drawn` meets its contract: a refusal leaves the output as found.
use native.Mathlib.Omega.{arith}
use Rattle.meaning.specs.LineCalls.{output_answer}
use Rattle.writing.specs.Gives.{gives-refusal, gives_same}
use Rattle.lines.specs.Said.{said_unknown, said-many, said-near, said-written}
use Rattle.lines.proofs.drawn.write_drawn.Goals as goal

pub returns-then-not-known : goal.returns-then-not-known
unfolding output_answer
returns-then-not-known c = gives-refusal output_answer _ _ _ (said_unknown _ _ c.if-not-known.true)

pub returns-then-p-gt-MOST_STEPS : goal.returns-then-p-gt-MOST_STEPS
unfolding output_answer
returns-then-p-gt-MOST_STEPS c = gives-refusal output_answer _ _ _ (said-many _ _ c.if-not-known.false c.if-p-gt-MOST_STEPS.true)

pub near_roots-requires : goal.near_roots-requires
near_roots-requires c = c.requires (omega arith)

pub returns-then-near_roots-gt1 : goal.returns-then-near_roots-gt1
unfolding output_answer
returns-then-near_roots-gt1 c =
    gives-refusal output_answer _ _ _ (said-near _ _ c.if-not-known.false (omega arith) _ c.near_roots.ensures c.if-near_roots-gt1.true)

pub write_pattern-requires : goal.write_pattern-requires
write_pattern-requires c = c.requires (omega arith)

pub returns : goal.returns
returns c =
    let said = said-written _ _ c.if-not-known.false (omega arith) _ c.near_roots.ensures (omega arith) in
    gives_same output_answer _ _ _ said _ _ c.write_pattern.ensures
