-- Laying is transitive: covers of covers are covers.
use Rattle.std.specs.Prelude.{ℕ, ◌≡◌, refl, Bool, true, ◌||◌, eqb}
use Rattle.std.proofs.Common.{sym, subst, ⊎_elim, eqb-true}
use Rattle.base.specs.Bools.{and_first, and_second, and_both, or_cases, or_first}
use Rattle.meaning.specs.Forest.{Axis, near, far, is_near, Forest, none, step, is_none}
use Rattle.meaning.specs.Satisfying.{any_or_same}
use Rattle.meaning.specs.Covering.{starred_leaf, may_lie, lays, covers}
use Rattle.laws.specs.StepPlaces.{Place, here, after, below, Found, place-far, place-below, some-root}
use Rattle.laws.specs.Laying.{leaf_with, fits_with, first-lies, others-lie, lays-found, fits_of, fits-here, fits_below}
use Rattle.laws.specs.StarredLeaves.{leaf-lies, leaf_on_far, none_laid, leaf_on_leaf}

-- a label that fits one that fits a third fits the third
any_trans : (l m n : ℕ) → any_or_same l m ≡ true → any_or_same m n ≡ true → any_or_same l n ≡ true
unfolding any_or_same
any_trans l m n h k =
    ⊎_elim (or_first (eqb l 0) (eqb l n)) (λ e. subst (λ (i : ℕ). (eqb i 0 || eqb i n) ≡ true) (sym (eqb-true l m e)) k) (or_cases (eqb l 0) (eqb l m) h)

-- where a step may lie its label fits
lies-label : (x y : Axis) (l m : ℕ) (starred : Bool) → may_lie x l starred y m ≡ true → any_or_same l m ≡ true
unfolding may_lie
lies-label near y l m starred h = and_second (is_near y || starred) (any_or_same l m) h
lies-label far y l m starred h = h

-- what may lie on a step that may lie on a third may lie on the third, if it is a starred leaf where that step is one
may_lie_trans :
    (x y z : Axis) (l m n : ℕ) (starred there : Bool) → (there ≡ true → starred ≡ true)
    → may_lie x l starred y m ≡ true → may_lie y m there z n ≡ true → may_lie x l starred z n ≡ true
unfolding may_lie is_near
may_lie_trans near near near l m n starred there passes_on h k = any_trans l m n h k
may_lie_trans near near far l m n starred there passes_on h k =
    and_both starred (any_or_same l n) (passes_on (and_first there (any_or_same m n) k)) (any_trans l m n h (and_second there (any_or_same m n) k))
may_lie_trans near far near l m n starred there passes_on h k = any_trans l m n (and_second starred (any_or_same l m) h) k
may_lie_trans near far far l m n starred there passes_on h k =
    and_both starred (any_or_same l n) (and_first starred (any_or_same l m) h) (any_trans l m n (and_second starred (any_or_same l m) h) k)
may_lie_trans far y z l m n starred there passes_on h k = any_trans l m n h (lies-label y z m n there k)

-- ---- places

-- where a forest is laid, the step at each of its places has a place
follow_far : {y : Axis} {m : ℕ} {k b : Forest} (c : Forest) → Place far b y m k → lays b c ≡ true → Found far (fits_with y m k) c
follow_far {y} {m} {k} c (here {later}) h =
    let r = first-lies y m k later c h in
    record { axis = r.axis; label = r.label; kids = r.kids; place = place-far r.place; passed = r.passed }
follow_far c (after {z} {n} {kids} {later} p) h = follow_far c p (others-lie z n kids later c h)
follow_far c (below {z} {n} {kids} {later} p) h =
    let r = first-lies z n kids later c h in
    let s = follow_far r.kids p (fits_below z r.axis n r.label kids r.kids r.passed) in
    record { axis = s.axis; label = s.label; kids = s.kids; place = place-below r.place s.place; passed = s.passed }

-- that of a near root step is among the roots
follow_near : {m : ℕ} {k b : Forest} (c : Forest) → Place near b near m k → lays b c ≡ true → Found near (fits_with near m k) c
follow_near {m} {k} c (here {later}) h = first-lies near m k later c h
follow_near c (after {z} {n} {kids} {later} p) h = follow_near c p (others-lie z n kids later c h)

-- a starred leaf finds a place wherever there is a root step
moved_up : (l : ℕ) (kids c : Forest) → leaf_with l kids ≡ true → Found near (λ y m k. true) c → Found near (fits_with near l kids) c
unfolding starred_leaf
moved_up l kids c s r =
    let may = leaf-lies r.axis l r.label (is_none kids) s in
    let laid = none_laid kids r.kids (and_second (eqb l 0) (is_none kids) s) in
    record { axis = r.axis; label = r.label; kids = r.kids; place = r.place; passed = fits_of near r.axis l r.label kids r.kids may laid }

-- a step of the first forest that fits at a place of the second finds one in the third, where the second is laid, if its child
-- steps are laid wherever those of that place are
module _ (l m : ℕ) (kids k b c : Forest) (onto : lays b c ≡ true) (deeper : (d : Forest) → lays k d ≡ true → lays kids d ≡ true) where
  -- where the step at that place lies
  moved-along : (x y : Axis) → fits_with x l kids y m k ≡ true → Found x (fits_with y m k) c → Found x (fits_with x l kids) c
  moved-along x y h r =
      let here-may = fits-here x y l m kids k h in
      let there-may = fits-here y r.axis m r.label k r.kids r.passed in
      let passes_on = leaf_on_leaf l m kids k (lies-label x y l m (leaf_with l kids) here-may) (fits_below x y l m kids k h) in
      let may = may_lie_trans x y r.axis l m r.label (leaf_with l kids) (leaf_with m k) passes_on here-may there-may in
      let laid = deeper r.kids (fits_below y r.axis m r.label k r.kids r.passed) in
      record { axis = r.axis; label = r.label; kids = r.kids; place = r.place; passed = fits_of x r.axis l r.label kids r.kids may laid }

  -- a starred leaf on a far step, which may lie deep, moves up: where something is strictly below there is a child
  moved : (x y : Axis) → Place x b y m k → fits_with x l kids y m k ≡ true → Found x (fits_with x l kids) c
  moved near near p h = moved-along near near h (follow_near c p onto)
  moved near far p h =
      moved_up l kids c (leaf_on_far l m (leaf_with l kids) (fits-here near far l m kids k h)) (some-root (follow_far c (place-far p) onto).place)
  moved far y p h = moved-along far y h (follow_far c p onto)

-- a forest laid onto one that is laid onto a third can be laid onto the third
pub lays_trans : (a b c : Forest) → lays a b ≡ true → lays b c ≡ true → lays a c ≡ true
unfolding lays
lays_trans none b c h e = refl
lays_trans (step x l kids later) b c h e =
    let r = first-lies x l kids later b h in
    let laid = fits_below x r.axis l r.label kids r.kids r.passed in
    lays-found x l kids later c
    (moved l r.label kids r.kids b c e (λ d. lays_trans kids r.kids d laid) x r.axis r.place r.passed)
    (lays_trans later b c (others-lie x l kids later b h) e)

-- covers of covers are covers
pub covers_trans : (a b c : Forest) → covers a b ≡ true → covers b c ≡ true → covers a c ≡ true
unfolding covers
covers_trans a b c h e = lays_trans a b c h e
