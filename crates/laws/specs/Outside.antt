-- Steps outside a block of numbers, and a forest read back from its steps, whatever follows outside their block.
use Rattle.std.specs.Prelude.{ℕ, suc, ◌+◌, ◌≤◌, ◌<◌, ◌≡◌, refl, ◌⊎◌, List, [], ◌∷◌, ◌++◌}
use Rattle.std.proofs.Common.{◌∙◌, ap, inl, inr, ⊎_elim, append_assoc, arith}
use Rattle.meaning.specs.Forest.{Axis, axis_number, Forest, none, step, size, children_in, steps_from}
use Rattle.meaning.specs.declared.Step.{Step}
use Rattle.laws.specs.Bridge.{no_child, children_of-steps}

-- every parent is below p, or at least e
unfoldable pub Outside : ℕ → ℕ → List Step → Type 0
Outside p e [] = Unit
Outside p e (s ∷ ss) = ((s.parent < p) ⊎ (e ≤ s.parent)) × Outside p e ss

-- steps outside, and more of them
outside-append : (p e : ℕ) (xs ys : List Step) → Outside p e xs → Outside p e ys → Outside p e (xs ++ ys)
unfolding Outside
outside-append p e [] ys h k = k
outside-append p e (x ∷ xs) ys h k = (h.0, outside-append p e xs ys h.1 k)

-- outside a wider stretch is outside a narrower one
outside_more : (p q e f : ℕ) (xs : List Step) → p ≤ q → f ≤ e → Outside p e xs → Outside q f xs
unfolding Outside
outside_more p q e f [] h k o = o
outside_more p q e f (x ∷ xs) h k o =
    (⊎_elim (λ l. inl (omega arith)) (λ l. inr (omega arith)) o.0, outside_more p q e f xs h k o.1)

-- the steps of a forest below p have the parent p, or one of their own block
pub outside-written : (q e p k : ℕ) (f : Forest) → (p < q) ⊎ (e ≤ p) → e ≤ k → Outside q e (steps_from p k f)
unfolding Outside steps_from
outside-written q e p k none h l = tt
outside-written q e p k (step a m kids later) h l = (
  h,
  outside-append q e (steps_from k (suc k) kids) (steps_from p (suc k + size kids) later)
      (outside-written q e k (suc k) kids (inr l) (omega arith))
      (outside-written q e p (suc k + size kids) later h (omega arith)),
)

-- among steps outside p's block there is none of its children
none_outside : (p e k : ℕ) (xs : List Step) → p < e → Outside p e xs → children_in p k xs ≡ none
unfolding Outside children_in
none_outside p e k [] h o = refl
none_outside p e k (x ∷ xs) h o =
    no_child p k x xs (λ q. ⊎_elim (λ l. omega arith) (λ l. omega arith) o.0) ∙ none_outside p e (suc k) xs h o.1

-- a forest is read back from its steps, whatever follows outside its block
pub read_back : (p k : ℕ) (f : Forest) (after : List Step) → p < k → Outside p (k + size f) after → children_in p k (steps_from p k f ++ after) ≡ f
read_back p k f after h o =
    let e = k + size f in
    children_of-steps p k e f after refl h (none_outside p e e after (omega arith) o)
    (λ q a b. none_outside q e e after b (outside_more p q e e after (omega arith) (omega arith) o))

-- ---- at a step of a forest

-- what follows the steps below a step: the steps after it below the same parent, and what follows those
unfoldable pub afterwards : ℕ → ℕ → Forest → Forest → List Step → List Step
afterwards p k kids later after = steps_from p (suc k + size kids) later ++ after

-- what is outside a forest's block is outside that of its later steps
pub outside_later : (p k : ℕ) (a : Axis) (m : ℕ) (kids later : Forest) (after : List Step) → Outside p (k + size (step a m kids later)) after
    → Outside p (suc k + size kids + size later) after
unfolding size
outside_later p k a m kids later after o =
    outside_more p p (k + suc (size kids + size later)) (suc k + size kids + size later) after (omega arith) (omega arith) o

-- what follows the steps below step k is outside its block
pub outside-afterwards : (p k : ℕ) (kids later : Forest) (after : List Step) → p < k → Outside p (suc k + size kids + size later) after
    → Outside k (suc k + size kids) (afterwards p k kids later after)
unfolding afterwards
outside-afterwards p k kids later after h o =
    outside-append k (suc k + size kids) (steps_from p (suc k + size kids) later) after
    (outside-written k (suc k + size kids) p (suc k + size kids) later (inl h) (omega arith))
    (outside_more p k (suc k + size kids + size later) (suc k + size kids) after (omega arith) (omega arith) o)

-- a step as it is written
unfoldable pub written_step : ℕ → Axis → ℕ → Step
written_step p a m = record { parent = p; axis = axis_number a; label = m }

-- a forest's steps: its first, those below that, and what follows
pub steps-split : (p k : ℕ) (a : Axis) (m : ℕ) (kids later : Forest) (after : List Step)
    → steps_from p k (step a m kids later) ++ after ≡ written_step p a m ∷ (steps_from k (suc k) kids ++ afterwards p k kids later after)
unfolding steps_from afterwards written_step
steps-split p k a m kids later after =
    ap (λ (l : List Step). written_step p a m ∷ l) (append_assoc (steps_from k (suc k) kids) (steps_from p (suc k + size kids) later) after)
