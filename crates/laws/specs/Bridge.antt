-- The bridge between forests and numbered steps: the steps of a forest, as they are written, are that forest again.
use Rattle.std.specs.Prelude.{ℕ, zero, suc, ◌+◌, ◌≤◌, ◌<◌, ◌≡◌, refl, List, [], ◌∷◌, ◌++◌, length}
use Rattle.std.proofs.Common.{sym, ap, ◌∙◌, append_assoc, append-nil, arith, eq-eqb, ne_eqb, length-append}
use Rattle.base.specs.Choice.{pick}
use Rattle.meaning.specs.Forest.{Axis, near, far, axis_of, axis_number, Forest, none, step, size, children_in, forest, steps_from, steps_of}
use Rattle.meaning.specs.declared.Step.{Step}

-- there are as many steps from any number on as the forest has
pub length-steps_from : (p k : ℕ) (f : Forest) → length (steps_from p k f) ≡ size f
unfolding steps_from size
length-steps_from p k none = refl
length-steps_from p k (step a l kids later) =
    ap suc
    (length-append (steps_from k (suc k) kids) (steps_from p (suc k + size kids) later)
    ∙ omega (arith, length-steps_from k (suc k) kids, length-steps_from p (suc k + size kids) later))

-- there are as many steps as the forest has
pub length-steps_of : (f : Forest) → length (steps_of f) ≡ size f
unfolding steps_of
length-steps_of f = length-steps_from 0 1 f

-- the axis that was written
pub axis-written : (a : Axis) → axis_of (axis_number a) ≡ a
unfolding axis_of axis_number
axis-written near = refl
axis-written far = refl

-- an axis that was read is written again
pub axis-read : (x : ℕ) → x ≤ 1 → axis_number (axis_of x) ≡ x
unfolding axis_number axis_of
axis-read zero h = refl
axis-read (suc zero) h = refl
axis-read (suc (suc x)) h = absurd (omega arith)

-- an axis is written as 0 or 1
pub axis-low : (a : Axis) → axis_number a ≤ 1
unfolding axis_number
axis-low near = omega arith
axis-low far = omega arith

-- the first step is a child of p, and the others after it
pub first_child : (p k : ℕ) (s : Step) (ss : List Step) → s.parent ≡ p
    → children_in p k (s ∷ ss) ≡ step (axis_of s.axis) s.label (children_in k (suc k) ss) (children_in p (suc k) ss)
unfolding children_in pick
first_child p k s ss h = rw (eq-eqb s.parent p h)

-- the first step is no child of p
pub no_child : (p k : ℕ) (s : Step) (ss : List Step) → (s.parent ≡ p → ⊥) → children_in p k (s ∷ ss) ≡ children_in p (suc k) ss
unfolding children_in pick
no_child p k s ss h = rw (ne_eqb s.parent p h)

-- a lower number that is not the parent has no child among a forest's steps, numbered from k on and ending before e
pub passes_over : (q p k e : ℕ) (f : Forest) (rest : List Step) → e ≡ k + size f → q < k → (p ≡ q → ⊥)
    → children_in q k (steps_from p k f ++ rest) ≡ children_in q e rest
unfolding steps_from size
passes_over q p k e none rest h low other = ap (λ (n : ℕ). children_in q n rest) (omega arith)
passes_over q p k e (step a l kids later) rest h low other =
    no_child q k _ _ other
    ∙ ap (children_in q (suc k)) (append_assoc (steps_from k (suc k) kids) (steps_from p (suc k + size kids) later) rest)
    ∙ passes_over q k (suc k) (suc k + size kids) kids (steps_from p (suc k + size kids) later ++ rest) refl (omega arith) (λ z. omega arith)
    ∙ passes_over q p (suc k + size kids) e later rest (omega arith) (omega arith) other

-- the children of p among a forest's steps are the forest, where what follows hangs neither on p nor on one of these steps
pub children_of-steps : (p k e : ℕ) (f : Forest) (rest : List Step) → e ≡ k + size f → p < k → children_in p e rest ≡ none
    → ((q : ℕ) → k ≤ q → q < e → children_in q e rest ≡ none)
    → children_in p k (steps_from p k f ++ rest) ≡ f
unfolding steps_from size
children_of-steps p k e none rest h low hp hq = ap (λ (n : ℕ). children_in p n rest) (omega arith) ∙ hp
children_of-steps p k e (step a l kids later) rest h low hp hq =
    let j = suc k + size kids in
    let kids_are : children_in k (suc k) (steps_from k (suc k) kids ++ (steps_from p j later ++ rest)) ≡ kids =
    children_of-steps k (suc k) j kids (steps_from p j later ++ rest) refl (omega arith)
    (passes_over k p j e later rest (omega arith) (omega arith) (λ z. omega arith) ∙ hq k (omega arith) (omega arith))
    (λ q a b. passes_over q p j e later rest (omega arith) b (λ z. omega arith) ∙ hq q (omega arith) (omega arith)) in
    let later-are : children_in p (suc k) (steps_from k (suc k) kids ++ (steps_from p j later ++ rest)) ≡ later =
    passes_over p k (suc k) j kids (steps_from p j later ++ rest) refl (omega arith) (λ z. omega arith)
    ∙ children_of-steps p j e later rest (omega arith) (omega arith) hp (λ q a b. hq q (omega arith) b) in
    first_child p k _ _ refl
    ∙ ap (λ ss. step (axis_of (axis_number a)) l (children_in k (suc k) ss) (children_in p (suc k) ss))
    (append_assoc (steps_from k (suc k) kids) (steps_from p j later) rest)
    ∙ λ i. step (axis-written a i) l (kids_are i) (later-are i)

-- the steps of a forest are that forest
pub forest-steps_of : (f : Forest) → forest (steps_of f) ≡ f
unfolding forest steps_of children_in
forest-steps_of f =
    ap (children_in 0 1) (sym (append-nil (steps_from 0 1 f))) ∙ children_of-steps 0 1 (1 + size f) f [] refl (omega arith) refl (λ q a b. refl)
