use mathlib.Core.Path.{refl}
use native.Mathlib.Omega.{arith}
use native.Mathlib.Numerals.{add-one}
use lib.ListN.{length-set}
use Rattle.base.specs.Storing.{left-first, turn-room, turn-goes_on, turns_end}
use Rattle.meaning.specs.Written.{step_bytes}
use Rattle.meaning.specs.declared.Step.{Step}
use Rattle.shapes.specs.Steps.{length-steps}
use Rattle.writing.specs.BytesWritten.{pattern_bytes_lem, pattern_length_lem, steps-length, step_held}
use Rattle.writing.proofs.put_pattern.Goals as goal

abbrev no_step : Step
no_step = record { parent = 0; axis = 0; label = 0 }

pub bounds-out-at : goal.bounds-out-at
bounds-out-at c = omega (arith, c.requires.1, pattern_length_lem _ c.requires.0)

pub loop-s-init : goal.loop-s-init
loop-s-init c =
    let sound = c.requires.0 in
    let long = length-set c.args.out.now c.args.at c.args.p.count in
    record {
      fits = omega (arith, sound.few, sound.full);
      within = omega arith;
      left = left-first _ _ refl (omega (arith, steps-length _ sound)) (omega (arith, c.requires.1, pattern_length_lem _ sound));
    }

pub put_step-requires : goal.put_step-requires
unfolding step_bytes
put_step-requires c =
    let there = rw (c.steps-s-items.ensures, length-steps c.args.p c.requires.0) at c.loop-s-test.true in
    turn-room c.loop-s.invariant no_step there

pub loop-s-preserved : goal.loop-s-preserved
unfolding step_bytes
loop-s-preserved c =
    let p = c.args.p in
    let there = rw (c.steps-s-items.ensures, length-steps p c.requires.0) at c.loop-s-test.true in
    let stored = rw (c.steps-s-items.ensures, step_held p c.requires.0 c.loop-s.s-index no_step there) at c.put_step.ensures in
    turn-goes_on c.loop-s.invariant no_step there _ _ stored refl

pub returns : goal.returns
returns c =
    let sound = c.requires.0 in
    let none_left = rw (c.steps-s-items.ensures, length-steps c.args.p sound) at c.loop-s-test.false in
    let done = turns_end c.loop-s.invariant none_left in
    let stored = rw (add-one c.args.at) at done.1 in
    (omega (arith, done.0, pattern_length_lem _ sound), rw (pattern_bytes_lem _ sound) stored)
