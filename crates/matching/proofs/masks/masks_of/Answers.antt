use Rattle.std.proofs.Common.{ℕ, suc, ◌*◌, ◌%◌, ◌^◌, ◌<◌, ◌≤◌, ◌≡◌, ◌∙◌, Bool, true, false, List, get_or, ap, length, arith, bit_or}
use Rattle.std.specs.Int.{from_bool}
use Rattle.std.specs.Int.Bits.{or_zero_r}
use lib.Pow.{shl_exact}
use Rattle.base.specs.Choice.{pick}
use Rattle.meaning.specs.Numbers.{most_steps}
use Rattle.meaning.specs.Covering.{step_at}
use Rattle.meaning.specs.declared.Step.{Step}
use Rattle.laws.specs.Children.{parent-before}
use Rattle.laws.specs.Marks.{marked}
use Rattle.shapes.specs.Shapes.{steps_in, WellFormed}
use Rattle.shapes.specs.Steps.{length-steps, steps_rise}
use Rattle.shapes.specs.declared.Pattern.{Pattern}
use Rattle.matching.specs.Masks.{masks_start, masks_go_on}
use Rattle.matching.proofs.masks.masks_of.Goals as goal

module _ (p : Pattern) (sound : WellFormed p) (ss : List Step) (are : ss ≡ steps_in p) (k : ℕ) (there : k < length ss) where
  abbrev s : Step
  s = get_or ss k (record { parent = 0; axis = 0; label = 0 })

  -- the step at place k is step k + 1
  here : s ≡ step_at (steps_in p) (suc k)
  unfolding step_at
  here = rw are

  -- whose parent is at most k
  low : s.parent ≤ k
  low = rw here (omega (arith, parent-before (steps_in p) (steps_rise p sound) (suc k) (omega arith) (rw are at there)))

-- bit k alone, which no shift by less than 16 loses
bit_alone : (k : ℕ) → k < most_steps → 1 * 2 ^ k % 65536 ≡ 2 ^ k
bit_alone k h = shl_exact 1 k 16 (omega arith) (omega arith) ∙ omega arith

-- bit k where it is so
bit_marked : (word k : ℕ) (so : Bool) → k < most_steps → bit_or word (from_bool so * 2 ^ k % 65536) ≡ marked word k so
unfolding marked pick
bit_marked word k true h = ap (bit_or word) (bit_alone k h)
bit_marked word k false h = ap (bit_or word) (omega arith) ∙ or_zero_r word

pub loop-k-init : goal.loop-k-init
loop-k-init c = (ap length c.steps-s-items.ensures ∙ length-steps _ c.requires, masks_start (steps_in _))

pub bounds-m-from : goal.bounds-m-from
bounds-m-from c = omega (arith, low _ c.requires _ c.steps-s-items.ensures c.loop-k.k c.loop-k-test.true, c.requires.few)

pub bounds-m-from-in-loop-k : goal.bounds-m-from-in-loop-k
bounds-m-from-in-loop-k c = omega (arith, low _ c.requires _ c.steps-s-items.ensures c.loop-k.k c.loop-k-test.true, c.requires.few)

pub loop-k-preserved : goal.loop-k-preserved
loop-k-preserved c =
    let p = c.args.p in
    let k = c.loop-k.k in
    let ss = c.steps-s-items.result.now in
    let few : k < most_steps = omega (arith, c.requires.few) in
    let is = here p c.requires ss c.steps-s-items.ensures k c.loop-k-test.true in
    let below = low p c.requires ss c.steps-s-items.ensures k c.loop-k-test.true in (
      c.loop-k.invariant.0,
      rw (c.from.ensures, c.from-in-loop-k.ensures, c.from-in-loop-k-2.ensures)
          (masks_go_on (steps_in p) k _ few c.loop-k.invariant.1 is (omega arith) (bit_alone k few) c.cares_for.ensures (bit_marked c.loop-k.far k _ few)),
    )

pub returns : goal.returns
returns c =
    let all : c.loop-k.k ≡ length (steps_in c.args.p) = omega (arith, ap length c.steps-s-items.ensures) in
    rw all at c.loop-k.invariant.1
