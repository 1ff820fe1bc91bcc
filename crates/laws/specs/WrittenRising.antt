-- The written steps of a forest rise: a parent has a lower number.
use Rattle.std.specs.Prelude.{ℕ, zero, suc, ◌+◌, ◌<◌, List, [], ◌∷◌, ◌++◌, length, get_or}
use Rattle.std.proofs.Common.{sym, subst, append-nil, arith}
use Rattle.meaning.specs.Forest.{Forest, none, step, size, steps_from, steps_of}
use Rattle.meaning.specs.Covering.{step_parents}
use Rattle.meaning.specs.declared.Step.{Step}
use Rattle.laws.specs.Rising.{Rising}
use Rattle.laws.specs.Outside.{afterwards, written_step, steps-split}

-- every step, the first of them numbered k, has a parent with a lower number
Low : ℕ → List Step → Type 0
Low k [] = Unit {0}
Low k (s ∷ ss) = (s.parent < k) × Low (suc k) ss

-- so have the steps of a forest
low-written : (p k : ℕ) (f : Forest) (after : List Step) → p < k → Low (k + size f) after → Low k (steps_from p k f ++ after)
unfolding Low steps_from size afterwards written_step
low-written p k none after h l = subst (λ (n : ℕ). Low n after) (omega arith) l
low-written p k (step a m kids later) after h l =
    let beside = low-written p (suc k + size kids) later after (omega arith) (subst (λ (n : ℕ). Low n after) (omega arith) l) in
    subst (Low k) (sym (steps-split p k a m kids later after)) (h, low-written k (suc k) kids (afterwards p k kids later after) (omega arith) beside)

-- and each of them
low_at : (k j : ℕ) (ss : List Step) → j < length (step_parents ss) → Low k ss → get_or (step_parents ss) j 0 < k + j
unfolding Low step_parents
low_at k j [] h l = absurd (omega arith)
low_at k zero (s ∷ ss) h l = omega arith
low_at k (suc j) (s ∷ ss) h l = omega (arith, low_at (suc k) j ss (omega arith) l.1)

-- so the parents rise
pub written_rises : (f : Forest) → Rising (step_parents (steps_of f))
unfolding Low steps_of
written_rises f =
    let whole : Low 1 (steps_from 0 1 f ++ []) = low-written 0 1 f [] (omega arith) tt in
    let low : Low 1 (steps_from 0 1 f) = subst (Low 1) (append-nil (steps_from 0 1 f)) whole in
    record { low = λ k h. omega (arith, low_at 1 k (steps_from 0 1 f) h low) }
