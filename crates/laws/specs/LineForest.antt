-- What a line draws, as a pattern: with a sheet's labels a sketch is a forest, and the steps that are drawn are its steps. What is
-- written of them is that pattern's bytes, unless they are refused.
use Prim.Native.Nat.{ℕ, suc, ◌+◌, ◌≤◌, ◌<◌}
use Rattle.std.specs.Prelude.{◌≡◌, true, false, length}
use Rattle.std.proofs.Math.Path.{refl, ap, ap₂}
use Rattle.std.proofs.Common.{◌∙◌, arith}
use mathlib.Core.List.{List, ◌∷◌, ◌++◌, flat_map, map, map-append}
use borrow.Author.Tests.{le-leb, lt-leb}
use Rattle.base.specs.Choice.{pick}
use Rattle.base.specs.Lists.{every}
use Rattle.meaning.specs.Numbers.{most_steps}
use Rattle.meaning.specs.Forest.{axis_number, Forest, none, step, size, steps_from, steps_of}
use Rattle.meaning.specs.Written.{step_bytes, steps_bytes, pattern_bytes}
use Rattle.meaning.specs.Notation.{Sketch, blank, draw, drawn_size, drawn_from, steps_drawn}
use Rattle.meaning.specs.Calls.{refuses, writes}
use Rattle.meaning.specs.LineCalls.{name_number, known_drawn, numbered_step, in_order, drawn_writing}
use Rattle.meaning.specs.declared.Step.{Step}
use Rattle.laws.specs.Bridge.{length-steps_of}
use Rattle.laws.specs.MergeLabels.{LabelsWithin}
use Rattle.laws.specs.MergeNears.{nears}
use Rattle.laws.specs.SoundPatterns.{SoundPattern, nears-counted}
use Rattle.laws.specs.NameNumbers.{name-low}
use Rattle.meaning.specs.declared.Refusal.TheVariants.{CountOutside, SecondNear, LabelUnknown}

-- the pattern that is drawn: each name by its number
unfoldable pub drawn_forest : List (List ℕ) → Sketch → Forest
drawn_forest ls blank = none
drawn_forest ls (draw a n kids later) = step a (name_number ls n) (drawn_forest ls kids) (drawn_forest ls later)

module _ (ls : List (List ℕ)) where
  -- it has as many steps as are drawn
  pub drawn_size_lem : (t : Sketch) → size (drawn_forest ls t) ≡ drawn_size t
  unfolding drawn_forest drawn_size size
  drawn_size_lem blank = refl
  drawn_size_lem (draw a n kids later) = ap₂ (λ (i j : ℕ). suc (i + j)) (drawn_size_lem kids) (drawn_size_lem later)

  -- below step p, from number k on
  drawn-steps_from : (p k : ℕ) (t : Sketch) → map (numbered_step ls) (drawn_from p k t) ≡ steps_from p k (drawn_forest ls t)
  unfolding drawn_forest drawn_from steps_from numbered_step
  drawn-steps_from p k blank = refl
  drawn-steps_from p k (draw a n kids later) =
      let s : Step = record { parent = p; axis = axis_number a; label = name_number ls n } in
      map-append (numbered_step ls) (record { parent = p; axis = a; name = n } ∷ drawn_from k (suc k) kids) _
      ∙ rw (drawn_size_lem kids, drawn-steps_from k (suc k) kids)
      (ap (λ ss. s ∷ (steps_from k (suc k) (drawn_forest ls kids) ++ ss)) (drawn-steps_from p (suc k + drawn_size kids) later))

  -- the steps that are drawn are its steps
  pub drawn-steps : (t : Sketch) → map (numbered_step ls) (steps_drawn t) ≡ steps_of (drawn_forest ls t)
  unfolding steps_drawn steps_of
  drawn-steps t = drawn-steps_from 0 1 t

  -- and are written as its bytes
  pub drawn-bytes : (t : Sketch) → steps_bytes (map (numbered_step ls) (steps_drawn t)) ≡ pattern_bytes (drawn_forest ls t)
  unfolding steps_bytes pattern_bytes
  drawn-bytes t = ap steps_bytes (drawn-steps t) ∙ ap (◌∷ flat_map step_bytes (steps_of (drawn_forest ls t))) (length-steps_of (drawn_forest ls t))

-- ---- it is sound where it has few steps and at most one near root step

module _ (ls : List (List ℕ)) where
  -- its labels are among the sheet's
  drawn-within : (t : Sketch) → LabelsWithin (length ls) (drawn_forest ls t)
  unfolding drawn_forest LabelsWithin
  drawn-within blank = tt
  drawn-within (draw a n kids later) = (name-low ls n, drawn-within kids, drawn-within later)

  -- so it is sound
  pub drawn-sound : (t : Sketch) → drawn_size t ≤ most_steps → nears (drawn_forest ls t) ≤ 1 → SoundPattern (length ls) (drawn_forest ls t)
  drawn-sound t few lone = record { few = omega (arith, drawn_size_lem ls t); within = drawn-within t; lone = lone }

-- ---- what is written of it

module _ (ls : List (List ℕ)) (t : Sketch) where
  -- not all its labels are the sheet's
  pub drawn_unknown : every (known_drawn ls) (steps_drawn t) ≡ false → drawn_writing ls (steps_drawn t) ≡ refuses LabelUnknown
  unfolding drawn_writing in_order pick
  drawn_unknown k = rw k

  -- they are, and there are more than 16 steps
  pub drawn-many : every (known_drawn ls) (steps_drawn t) ≡ true → most_steps < drawn_size t → drawn_writing ls (steps_drawn t) ≡ refuses CountOutside
  unfolding drawn_writing in_order pick
  drawn-many k many = rw (k, drawn-steps ls t, length-steps_of (drawn_forest ls t), drawn_size_lem ls t, lt-leb (drawn_size t) most_steps many)

  -- there are at most 16, and more than one root step is near
  pub drawn-nears : every (known_drawn ls) (steps_drawn t) ≡ true → drawn_size t ≤ most_steps → 1 < nears (drawn_forest ls t)
      → drawn_writing ls (steps_drawn t) ≡ refuses SecondNear
  unfolding drawn_writing in_order pick
  drawn-nears k few two =
      rw (
        k,
        drawn-steps ls t,
        length-steps_of (drawn_forest ls t),
        drawn_size_lem ls t,
        le-leb (drawn_size t) most_steps few,
        nears-counted (drawn_forest ls t),
        lt-leb (nears (drawn_forest ls t)) 1 two,
      )

  -- at most one is: the pattern's bytes
  pub drawn-written : every (known_drawn ls) (steps_drawn t) ≡ true → drawn_size t ≤ most_steps → nears (drawn_forest ls t) ≤ 1
      → drawn_writing ls (steps_drawn t) ≡ writes tt (pattern_bytes (drawn_forest ls t))
  unfolding drawn_writing in_order pick
  drawn-written k few one =
      rw (
        k,
        drawn-bytes ls t,
        drawn-steps ls t,
        length-steps_of (drawn_forest ls t),
        drawn_size_lem ls t,
        le-leb (drawn_size t) most_steps few,
        nears-counted (drawn_forest ls t),
        le-leb (nears (drawn_forest ls t)) 1 one,
      )
