-- A pattern as the list of its root branches: what is kept at a pair, joined.
use Rattle.std.specs.Prelude.{ℕ, suc, ◌+◌, ◌≡◌, refl, Bool, true, false, not, List, [], ◌∷◌, ◌++◌}
use Rattle.std.proofs.Common.{sym, ◌∙◌, ap, append_assoc, arith}
use Rattle.std.proofs.Math.Bool.{and-true, or-false, or_assoc}
use Rattle.base.specs.Choice.{pick}
use Rattle.base.specs.Lists.{some, keep, total}
use Rattle.base.specs.ListLaws.{some_same}
use Rattle.meaning.specs.Forest.{Axis, near, far, Forest, none, step, size, steps_from, steps_of, beside}
use Rattle.meaning.specs.Covering.{finds, lays, covers}
use Rattle.meaning.specs.Merging.{Branch, alone, joined, branch_size, laid_on, stays_beside, Building}
use Rattle.meaning.specs.declared.Step.{Step}
use Rattle.shapes.specs.Shapes.{pattern_of, steps_in, WellFormed}
use Rattle.shapes.specs.declared.Pattern.{Pattern}
use Rattle.shapes.specs.Steps.{root-children, count-size}
use Rattle.shapes.specs.Holding.{Holds, StandsFor, stands}
use Rattle.laws.specs.Children.{children_of}
use Rattle.laws.specs.Laying.{fits_with}
use Rattle.laws.specs.JoinedBranches.{joined-size}

-- the root branches of a forest, in their order
unfoldable pub branches_of : Forest → List Branch
branches_of none = []
branches_of (step a l kids later) = record { axis = a; label = l; kids = kids } ∷ branches_of later

-- joined they are the forest
pub joined-branches : (f : Forest) → joined (branches_of f) ≡ f
unfolding joined branches_of
joined-branches none = refl
joined-branches (step a l kids later) = ap (step a l kids) (joined-branches later)

-- and have its size
pub branches-size : (f : Forest) → total branch_size (branches_of f) ≡ size f
branches-size f = sym (joined-size (branches_of f)) ∙ ap size (joined-branches f)

-- ---- one forest after another, below the same parent

-- its branches are those of both
pub branches-beside : (f g : Forest) → branches_of (beside f g) ≡ branches_of f ++ branches_of g
unfolding beside branches_of
branches-beside none g = refl
branches-beside (step a l kids later) g = ap {B = List Branch} (λ bs. record { axis = a; label = l; kids = kids } ∷ bs) (branches-beside later g)

-- nothing after a forest changes nothing
pub beside_none : (f : Forest) → beside f none ≡ f
unfolding beside
beside_none none = refl
beside_none (step a l kids later) = ap (step a l kids) (beside_none later)

-- of three it does not matter which two come first
pub beside-beside : (f g h : Forest) → beside (beside f g) h ≡ beside f (beside g h)
unfolding beside
beside-beside none g h = refl
beside-beside (step a l kids later) g h = ap (step a l kids) (beside-beside later g h)

-- it has the steps of both
size-beside : (f g : Forest) → size (beside f g) ≡ size f + size g
unfolding beside size
size-beside none g = omega arith
size-beside (step a l kids later) g = omega (arith, size-beside later g)

-- its steps are those of the first, then those of the second
steps-beside : (p k : ℕ) (f g : Forest) → steps_from p k (beside f g) ≡ steps_from p k f ++ steps_from p (k + size f) g
unfolding beside steps_from size
steps-beside p k none g = ap (λ (n : ℕ). steps_from p n g) (omega arith)
steps-beside p k (step a l kids later) g =
    let same : suc k + size kids + size later ≡ k + suc (size kids + size later) = omega arith in
    rw (steps-beside p (suc k + size kids) later g, same, append_assoc)

-- so they are written after one another
steps-after : (f g : Forest) (ss : List Step) (n : ℕ) → steps_of f ≡ ss → n ≡ size f → ss ++ steps_from 0 (suc n) g ≡ steps_of (beside f g)
unfolding steps_of
steps-after f g ss n e h =
    let m : suc n ≡ 1 + size f = omega arith in
    rw (← e, m) (sym (steps-beside 0 1 f g))

-- a pattern's steps put after those of another
pub copied-beside : (r c t : Pattern) → WellFormed r → Holds t (steps_in r ++ steps_from 0 (suc r.count) (children_of (steps_in c) 0))
    → StandsFor t (beside (pattern_of r) (pattern_of c))
copied-beside r c t sound h =
    let same : steps_in r ++ steps_from 0 (suc r.count) (children_of (steps_in c) 0) ≡ steps_of (beside (pattern_of r) (pattern_of c)) =
    rw root-children (steps-after (pattern_of r) (pattern_of c) (steps_in r) r.count sound.written (count-size r sound)) in
    stands t (beside (pattern_of r) (pattern_of c)) (rw same at h)

-- so it has the steps of both
pub count-beside : {r c t : Pattern} → WellFormed r → WellFormed c → StandsFor t (beside (pattern_of r) (pattern_of c)) → t.count ≡ r.count + c.count
count-beside {r} {c} {t} sr sc put =
    count-size t put.sound ∙ ap size put.pattern ∙ size-beside (pattern_of r) (pattern_of c) ∙ cc (count-size r sr, count-size c sc)

-- ---- the candidate and the kept ones

-- the first branch
unfoldable pub first_branch : Forest → Branch
first_branch none = record { axis = near; label = 0; kids = none }
first_branch (step a l kids later) = record { axis = a; label = l; kids = kids }

-- what is being built, as its pattern and its mark say
unfoldable pub building_at : Forest → Bool → Building
building_at f clipped = record { kept = branches_of f; clipped = clipped }

-- a place is found in a forest exactly if it is found in one of its branches
finds-some : (x : Axis) (passes : Axis → ℕ → Forest → Bool) (f : Forest)
    → some (λ k. finds x passes (alone k)) (branches_of f) ≡ finds x passes f
unfolding some branches_of finds alone
finds-some near passes none = refl
finds-some far passes none = refl
finds-some near passes (step y m kids later) = rw (or-false (passes y m kids), finds-some near passes later)
finds-some far passes (step y m kids later) =
    rw (or-false (finds far passes kids), finds-some far passes later)
    (or_assoc (passes y m kids) (finds far passes kids) (finds far passes later))

-- a candidate can be laid on a kept one exactly if it covers them joined
pub skipped : (c : Branch) (f : Forest) → some (laid_on c) (branches_of f) ≡ covers (alone c) f
unfolding laid_on covers lays alone
skipped c f =
    let passes = fits_with c.axis c.label c.kids in
    some_same (laid_on c) (λ k. finds c.axis passes (alone k)) (branches_of f) (λ k. and-true (finds c.axis passes (alone k)))
    ∙ finds-some c.axis passes f ∙ sym (and-true (finds c.axis passes f))

-- the root branches that can't be laid on c
unfoldable pub staying_forest : Forest → Forest → Forest
staying_forest c none = none
staying_forest c (step a l kids later) =
    let others = staying_forest c later in
    pick (covers (step a l kids none) c) others (step a l kids others)

-- they are those that stay beside the candidate
pub stay-kept : (c : Branch) (f : Forest) → branches_of (staying_forest (alone c) f) ≡ keep (stays_beside c) (branches_of f)
unfolding staying_forest branches_of keep stays_beside laid_on pick alone
stay-kept c none = refl
stay-kept c (step a l kids later) = go (covers (step a l kids none) (alone c)) (stay-kept c later)
  where
    go : (b : Bool) → branches_of (staying_forest (alone c) later) ≡ keep (stays_beside c) (branches_of later)
        → branches_of (pick b (staying_forest (alone c) later) (step a l kids (staying_forest (alone c) later)))
        ≡ pick (not b) (record { axis = a; label = l; kids = kids } ∷ keep (stays_beside c) (branches_of later)) (keep (stays_beside c) (branches_of later))
    go true h = h
    go false h = ap {B = List Branch} (λ bs. record { axis = a; label = l; kids = kids } ∷ bs) h
