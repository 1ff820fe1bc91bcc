-- A pattern by value without its last step.
use Rattle.std.specs.Prelude.{ℕ, zero, suc, ◌-◌, ◌≤◌, ◌<◌, ◌≡◌, refl}
use Rattle.std.proofs.Common.{sym, ◌∙◌, arith}
use Rattle.std.proofs.Math.Path.{ap}
use Rattle.std.proofs.Math.ListN.{take}
use Rattle.std.proofs.Math.Seq.{take-take}
use Rattle.meaning.specs.Forest.{size, forest, children_in, steps_of}
use Rattle.meaning.specs.Building.{cut}
use Rattle.laws.specs.Bridge.{forest-steps_of}
use Rattle.laws.specs.Cutting.{size-cut, steps_of-cut}
use Rattle.shapes.specs.Shapes.{steps_in, pattern_of, WellFormed}
use Rattle.shapes.specs.Steps.{count-size}
use Rattle.shapes.specs.declared.Pattern.{Pattern}

-- its steps but the last
abbrev pub without_last : Pattern → Pattern
without_last p = record { count = p.count - 1; steps = p.steps }

module _ (p : Pattern) (s : WellFormed p) (h : 0 < p.count) where
  -- they are those of the cut
  steps-shorter : steps_of (cut (pattern_of p)) ≡ steps_in (without_last p)
  unfolding steps_in
  steps-shorter =
      let n : size (cut (pattern_of p)) ≡ p.count - 1 = omega (arith, count-size p s, size-cut (pattern_of p) (omega (arith, count-size p s))) in
      steps_of-cut (pattern_of p)
      ∙ ap (take (size (cut (pattern_of p)))) s.written
      ∙ ap (λ (m : ℕ). take m (take p.count p.steps)) n
      ∙ take-take (p.count - 1) p.count p.steps (omega arith)

  -- so it is the cut
  pub cut-shorter : pattern_of (without_last p) ≡ cut (pattern_of p)
  unfolding pattern_of
  cut-shorter = ap forest (sym steps-shorter) ∙ forest-steps_of (cut (pattern_of p))

  -- and it is well formed
  pub shorter-sound : WellFormed (without_last p)
  shorter-sound = record { few = omega (arith, s.few); full = s.full; written = ap steps_of cut-shorter ∙ steps-shorter }

-- where there is no step, none is lost
pub cut-nothing : (p : Pattern) → p.count ≤ 0 → pattern_of p ≡ cut (pattern_of p)
unfolding pattern_of steps_in forest children_in cut
cut-nothing p h = rw (zero_count) refl
  where
    zero_count : p.count ≡ 0
    zero_count = omega arith

-- in either case it is the cut, and well formed
pub cut_stands : (p : Pattern) → WellFormed p → (pattern_of (without_last p) ≡ cut (pattern_of p)) × WellFormed (without_last p)
cut_stands p s = go p.count refl
  where
    go : (m : ℕ) → p.count ≡ m → (pattern_of (without_last p) ≡ cut (pattern_of p)) × WellFormed (without_last p)
    go zero e =
        let same : p.count - 1 ≡ p.count = omega arith in
        rw same (cut-nothing p (omega arith), s)
    go (suc m) e = (cut-shorter p s (omega arith), shorter-sound p s (omega arith))
