-- What a pattern by value stands for, and what is so of each that the hub makes.
use Rattle.std.specs.Prelude.{ℕ, ◌≤◌, ◌≡◌, refl, length, take, replicate}
use Rattle.std.specs.Coded.{Coded, code_by, coded_ℕ, coded×}
use mathlib.Core.List.{List, Memᴰ}
use Rattle.std.proofs.Common.{arith}
use Rattle.meaning.specs.Numbers.{most_steps}
use Rattle.meaning.specs.Forest.{Forest, none, children_in, forest, steps_from, steps_of}
use Rattle.meaning.specs.declared.Step.{Step}
use Rattle.shapes.specs.declared.Pattern.{Pattern}
use Rattle.shapes.specs.declared.Entry.{Entry}

-- the steps that are there
unfoldable pub steps_in : Pattern → List Step
steps_in p = take p.count p.steps

unfoldable pub pattern_of : Pattern → Forest
pattern_of p = forest (steps_in p)

-- a pattern that is well formed: its steps are those of its forest, as they are written, so they stand in preorder, each
-- with a parent above it and an axis 0 or 1
pub record WellFormed (p : Pattern) : Type 0 where
  pub few : p.count ≤ most_steps
  pub full : length p.steps ≡ most_steps
  pub written : steps_of (pattern_of p) ≡ steps_in p

-- the pattern without steps
unfoldable pub no_steps : Pattern
no_steps = record { count = 0; steps = replicate most_steps (record { parent = 0; axis = 0; label = 0 }) }

-- it stands for no step, and is well formed
pub no_steps-stand : (p : Pattern) → p ≡ no_steps → (pattern_of p ≡ none) × WellFormed p
unfolding no_steps pattern_of steps_in forest children_in steps_of steps_from
no_steps-stand p e = rw e (refl, record { few = omega arith; full = refl; written = refl })

-- entries whose patterns are well formed
abbrev pub WellFormedAll : List Entry → Type 0
WellFormedAll es = (e : Entry) → Memᴰ e es → WellFormed e.pattern

-- a step is its three numbers: so two proofs that steps are the same don't differ
pub step_coded : Coded Step
step_coded =
    code_by (ℕ × (ℕ × ℕ)) (coded× coded_ℕ (coded× coded_ℕ coded_ℕ)) (λ t. (t.parent, (t.axis, t.label)))
    (λ (a, b). record { parent = a; axis = b.0; label = b.1 }) (λ _. refl)
