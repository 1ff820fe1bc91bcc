-- How many near steps with parent 0 a pattern has, as a loop counts them.
use Prim.Native.Nat.{ℕ, suc, ◌+◌, ◌≤◌, ◌<◌}
use Rattle.std.specs.Prelude.{◌≡◌, true, false, length, drop}
use Rattle.std.proofs.Math.Path.{refl}
use Rattle.std.proofs.Common.{arith}
use Rattle.std.proofs.Math.Numerals.{add-one}
use Rattle.base.specs.Choice.{pick}
use Rattle.base.specs.Lists.{keep}
use Rattle.meaning.specs.Sections.{is_near_root}
use Rattle.shapes.specs.Shapes.{steps_in, WellFormed}
use Rattle.shapes.specs.Steps.{step_in, steps_from_lem, steps-end}
use Rattle.shapes.specs.declared.Pattern.{Pattern}

-- those from step k on
unfoldable pub near_roots_from : Pattern → ℕ → ℕ
near_roots_from p k = length (keep is_near_root (drop k (steps_in p)))

module _ (p : Pattern) (sound : WellFormed p) (k n whole : ℕ) (left : n + near_roots_from p k ≡ whole) where
  -- one more
  pub near-counted : k < p.count → is_near_root (step_in p k) ≡ true → n + 1 + near_roots_from p (k + 1) ≡ whole
  unfolding near_roots_from keep pick
  near-counted h e =
      let one : near_roots_from p k ≡ suc (near_roots_from p (k + 1)) = rw (steps_from_lem p sound k h, e, add-one k) refl in
      omega (arith, one)

  -- another step
  pub near_not : k < p.count → is_near_root (step_in p k) ≡ false → n + near_roots_from p (k + 1) ≡ whole
  unfolding near_roots_from keep pick
  near_not h e =
      let none : near_roots_from p k ≡ near_roots_from p (k + 1) = rw (steps_from_lem p sound k h, e, add-one k) refl in
      omega (arith, none)

  -- no step is left
  pub near-ends : p.count ≤ k → n ≡ whole
  unfolding near_roots_from keep
  near-ends h = let none : near_roots_from p k ≡ 0 = rw (steps-end p sound k h) refl in omega (arith, none)
