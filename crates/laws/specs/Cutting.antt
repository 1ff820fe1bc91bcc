-- A pattern without its last step: it covers the pattern, has one step less, and its steps are the others in their order.
use Rattle.std.specs.Prelude.{ℕ, suc, ◌+◌, ◌<◌, ◌≡◌, refl, true, take}
use Rattle.std.proofs.Common.{append-nil, arith, add-zero}
use Rattle.std.proofs.Math.Seq.{take-append-add}
use Rattle.meaning.specs.Forest.{Axis, Forest, none, step, size, steps_from, steps_of}
use Rattle.meaning.specs.Covering.{lays, covers}
use Rattle.meaning.specs.Building.{cut}
use Rattle.laws.specs.Bridge.{length-steps_from}
use Rattle.laws.specs.StepPlaces.{here, after}
use Rattle.laws.specs.Laying.{leaf_with, may_lie_refl, lays_step, lays_refl, lays_weaken}

-- a pattern without its last step covers it
pub cut-covers : (f : Forest) → covers (cut f) f ≡ true
unfolding covers lays cut
cut-covers none = refl
cut-covers (step x l none none) = refl
cut-covers (step x l (step y m kids more) none) =
    let k = step y m kids more in
    lays_step x x l l (cut k) none k (step x l k none) here (may_lie_refl x l (leaf_with l (cut k))) (cut-covers (step y m kids more)) refl
cut-covers (step x l kids (step y m ks later)) =
    let r = step y m ks later in
    lays_step x x l l kids (cut r) kids (step x l kids r) here (may_lie_refl x l (leaf_with l kids)) (lays_refl kids)
    (lays_weaken (cut r) r (step x l kids r) (λ z w n k p. after p) (cut-covers (step y m ks later)))

-- it has one step less
pub size-cut : (f : Forest) → 0 < size f → suc (size (cut f)) ≡ size f
unfolding cut size
size-cut none h = absurd (omega arith)
size-cut (step x l none none) h = omega arith
size-cut (step x l (step y m kids more) none) h = inner (cut (step y m kids more)) (size-cut (step y m kids more) (omega arith))
  where
    inner : (c : Forest) → suc (size c) ≡ suc (size kids + size more) → suc (suc (size c + 0)) ≡ suc (suc (size kids + size more) + 0)
    inner c e = omega arith
size-cut (step x l kids (step y m ks later)) h = last (cut (step y m ks later)) (size-cut (step y m ks later) (omega arith))
  where
    last : (c : Forest) → suc (size c) ≡ suc (size ks + size later) → suc (suc (size kids + size c)) ≡ suc (size kids + suc (size ks + size later))
    last c e = omega arith

-- where the child steps are the first of others, so are the steps of the whole
steps-inner :
    (p k : ℕ) (x : Axis) (l : ℕ) (c kids : Forest) →
    steps_from k (suc k) c ≡ take (size c) (steps_from k (suc k) kids) →
    steps_from p k (step x l c none) ≡ take (size (step x l c none)) (steps_from p k (step x l kids none))
unfolding size steps_from
steps-inner p k x l c kids e = rw (append-nil (steps_from k (suc k) c), append-nil (steps_from k (suc k) kids), add-zero, e)

-- and so where the steps after the first are
steps-after :
    (p k : ℕ) (x : Axis) (l : ℕ) (kids c later : Forest) →
    steps_from p (suc k + size kids) c ≡ take (size c) (steps_from p (suc k + size kids) later) →
    steps_from p k (step x l kids c) ≡ take (size (step x l kids c)) (steps_from p k (step x l kids later))
unfolding size steps_from
steps-after p k x l kids c later e =
    rw (e, ← take-append-add (steps_from k (suc k) kids) (steps_from p (suc k + size kids) later) (size c), length-steps_from k (suc k) kids)

-- its steps are the forest's without the last, from any number on
pub steps_from-cut : (p k : ℕ) (f : Forest) → steps_from p k (cut f) ≡ take (size (cut f)) (steps_from p k f)
unfolding cut size steps_from
steps_from-cut p k none = refl
steps_from-cut p k (step x l none none) = refl
steps_from-cut p k (step x l (step y m kids more) none) =
    steps-inner p k x l (cut (step y m kids more)) (step y m kids more) (steps_from-cut k (suc k) (step y m kids more))
steps_from-cut p k (step x l kids (step y m ks later)) =
    steps-after p k x l kids (cut (step y m ks later)) (step y m ks later) (steps_from-cut p (suc k + size kids) (step y m ks later))

-- its steps are the pattern's without the last
pub steps_of-cut : (f : Forest) → steps_of (cut f) ≡ take (size (cut f)) (steps_of f)
unfolding steps_of
steps_of-cut f = steps_from-cut 0 1 f
