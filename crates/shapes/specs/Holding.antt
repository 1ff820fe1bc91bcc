-- The steps that a pattern by value holds, the forest that it stands for, and one step more.
use Rattle.std.specs.Prelude.{◌+◌, ◌≤◌, ◌<◌, ◌≡◌, List, [], ◌∷◌, ◌++◌, length, take, set}
use Rattle.std.proofs.Common.{sym, ◌∙◌, ap, arith, add-one, length-set, take-suc-set, length-take-le}
use Rattle.meaning.specs.Forest.{Forest, none, forest, steps_from, steps_of}
use Rattle.meaning.specs.declared.Step.{Step}
use Rattle.laws.specs.Bridge.{forest-steps_of}
use Rattle.shapes.specs.Shapes.{steps_in, pattern_of, WellFormed}
use Rattle.shapes.specs.Steps.{length-steps}
use Rattle.shapes.specs.declared.Pattern.{Pattern}
use Rattle.meaning.specs.Numbers.{most_steps}

-- a pattern by value that holds these steps
pub record Holds (p : Pattern) (ss : List Step) : Type 0 where
  pub steps : steps_in p ≡ ss
  pub number : p.count ≡ length ss
  pub few : p.count ≤ most_steps
  pub full : length p.steps ≡ most_steps

-- a pattern by value that is well formed, and stands for a forest
pub record StandsFor (p : Pattern) (f : Forest) : Type 0 where
  pub pattern : pattern_of p ≡ f
  pub sound : WellFormed p

-- one that holds the steps of a forest stands for it
pub stands : (p : Pattern) (f : Forest) → Holds p (steps_of f) → StandsFor p f
unfolding pattern_of
stands p f h =
    let is : forest (steps_in p) ≡ f = ap forest h.steps ∙ forest-steps_of f in
    record { pattern = is; sound = record { few = h.few; full = h.full; written = ap steps_of is ∙ sym h.steps } }

-- the steps that a pattern by value holds
pub holding : (p : Pattern) (ss : List Step) → p.count ≤ most_steps → length p.steps ≡ most_steps → steps_in p ≡ ss → Holds p ss
unfolding steps_in
holding p ss few full e = record { steps = e; number = sym (length-take-le p.count p.steps (omega arith)) ∙ ap length e; few = few; full = full }

-- a pattern without steps holds none
pub holds_none : (p : Pattern) → (pattern_of p ≡ none) × WellFormed p → (p.count ≡ 0) × (steps_in p ≡ [])
unfolding steps_of steps_from
holds_none p h =
    let e : steps_in p ≡ [] = sym h.1.written ∙ ap steps_of h.0 in
    (sym (length-steps p h.1) ∙ ap length e, e)

-- ---- one step more

-- a step after others
unfoldable pub step_after : List Step → Step → List Step
step_after ss s = ss ++ (s ∷ [])

-- a pattern with one step more
pub one_more : (p : Pattern) (s : Step) (t : Pattern) → p.count < most_steps → length p.steps ≡ most_steps → t.count ≡ p.count + 1
    → t.steps ≡ set p.steps p.count s
    → Holds t (step_after (steps_in p) s)
unfolding steps_in step_after
one_more p s t room full c e =
    let taken : take t.count t.steps ≡ take p.count p.steps ++ (s ∷ []) = rw (c, add-one, e) (take-suc-set p.steps p.count s (omega arith)) in
    holding t _ (omega arith) (ap length e ∙ length-set p.steps p.count s ∙ full) taken
