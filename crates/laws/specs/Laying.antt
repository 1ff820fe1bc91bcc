-- When a forest is laid onto another, and that every forest can be laid onto itself: every pattern covers itself.
use Rattle.std.specs.Prelude.{ℕ, ◌≡◌, refl, Bool, true, eqb}
use Rattle.std.proofs.Common.{eq-eqb}
use Rattle.base.specs.Bools.{and_first, and_second, and_both, or_second}
use Rattle.meaning.specs.Forest.{Axis, near, far, is_near, Forest, none, step, is_none}
use Rattle.meaning.specs.Satisfying.{any_or_same}
use Rattle.meaning.specs.Covering.{starred_leaf, may_lie, finds, fits_at, lays, covers}
use Rattle.laws.specs.StepPlaces.{Place, here, after, Found, finds_of, finds-gives}

-- a step with this label and these child steps is a starred leaf
abbrev pub leaf_with : ℕ → Forest → Bool
leaf_with l kids = starred_leaf l (is_none kids)

-- what a step with these child steps asks of a place
abbrev pub fits_with : Axis → ℕ → Forest → Axis → ℕ → Forest → Bool
fits_with x l kids = fits_at x l (leaf_with l kids) (lays kids)

-- of a forest that is laid, the first step has found a place
pub first-lies : (x : Axis) (l : ℕ) (kids later b : Forest) → lays (step x l kids later) b ≡ true → Found x (fits_with x l kids) b
unfolding lays
first-lies x l kids later b h = finds-gives x (fits_with x l kids) b (and_first (finds x (fits_with x l kids) b) (lays later b) h)

-- and the steps after it are laid
pub others-lie : (x : Axis) (l : ℕ) (kids later b : Forest) → lays (step x l kids later) b ≡ true → lays later b ≡ true
unfolding lays
others-lie x l kids later b h = and_second (finds x (fits_with x l kids) b) (lays later b) h

-- a forest is laid if its first step has found a place and the steps after it are laid
pub lays-found : (x : Axis) (l : ℕ) (kids later b : Forest) → Found x (fits_with x l kids) b → lays later b ≡ true → lays (step x l kids later) b ≡ true
unfolding lays
lays-found x l kids later b r h = and_both (finds x (fits_with x l kids) b) (lays later b) (finds_of (fits_with x l kids) r.place r.passed) h

-- a step that may lie at a place fits there if its child steps are laid below
pub fits_of : (x y : Axis) (l m : ℕ) (kids k : Forest) → may_lie x l (leaf_with l kids) y m ≡ true → lays kids k ≡ true → fits_with x l kids y m k ≡ true
unfolding fits_at
fits_of x y l m kids k f e = and_both (may_lie x l (leaf_with l kids) y m) (lays kids k) f e

-- so the forest is laid
pub lays_step :
    (x y : Axis) (l m : ℕ) (kids later k b : Forest) →
    Place x b y m k → may_lie x l (leaf_with l kids) y m ≡ true → lays kids k ≡ true → lays later b ≡ true → lays (step x l kids later) b ≡ true
lays_step x y l m kids later k b p f e h =
    lays-found x l kids later b (record { axis = y; label = m; kids = k; place = p; passed = fits_of x y l m kids k f e }) h

-- a step that fits at a place may lie there
pub fits-here : (x y : Axis) (l m : ℕ) (kids k : Forest) → fits_with x l kids y m k ≡ true → may_lie x l (leaf_with l kids) y m ≡ true
unfolding fits_at
fits-here x y l m kids k h = and_first (may_lie x l (leaf_with l kids) y m) (lays kids k) h

-- and its child steps are laid below
pub fits_below : (x y : Axis) (l m : ℕ) (kids k : Forest) → fits_with x l kids y m k ≡ true → lays kids k ≡ true
unfolding fits_at
fits_below x y l m kids k h = and_second (may_lie x l (leaf_with l kids) y m) (lays kids k) h

-- what is laid in a forest is laid wherever the forest's places are places
pub lays_weaken : (a b c : Forest) → ((x y : Axis) (m : ℕ) (k : Forest) → Place x b y m k → Place x c y m k) → lays a b ≡ true → lays a c ≡ true
unfolding lays
lays_weaken none b c w h = refl
lays_weaken (step x l kids later) b c w h =
    let r = first-lies x l kids later b h in
    lays-found x l kids later c
    (record { axis = r.axis; label = r.label; kids = r.kids; place = w x r.axis r.label r.kids r.place; passed = r.passed })
    (lays_weaken later b c w (others-lie x l kids later b h))

-- a step may lie on itself
pub may_lie_refl : (x : Axis) (l : ℕ) (starred : Bool) → may_lie x l starred x l ≡ true
unfolding may_lie is_near any_or_same
may_lie_refl near l starred = or_second (eqb l 0) (eqb l l) (eq-eqb l l refl)
may_lie_refl far l starred = or_second (eqb l 0) (eqb l l) (eq-eqb l l refl)

-- every forest can be laid onto itself
pub lays_refl : (f : Forest) → lays f f ≡ true
unfolding lays
lays_refl none = refl
lays_refl (step x l kids later) =
    lays_step x x l l kids later kids (step x l kids later) here (may_lie_refl x l (leaf_with l kids)) (lays_refl kids)
    (lays_weaken later later (step x l kids later) (λ y z m k p. after p) (lays_refl later))

-- every pattern covers itself
pub covers_refl : (f : Forest) → covers f f ≡ true
unfolding covers
covers_refl f = lays_refl f
