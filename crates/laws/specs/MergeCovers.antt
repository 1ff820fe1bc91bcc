-- The merge of two patterns covers both, clipped or not, whatever the limit.
use Rattle.std.specs.Prelude.{ℕ, ◌≡◌, refl, Bool, true, false, ◌&&◌, ◌||◌, eqb}
use Rattle.base.specs.Choice.{pick}
use Rattle.base.specs.Bools.{and_first, and_second, and_both, or_first, or_second}
use Rattle.meaning.specs.Forest.{Axis, near, far, is_near, Forest, none, step}
use Rattle.meaning.specs.Satisfying.{any_or_same}
use Rattle.meaning.specs.Covering.{may_lie, lays, covers}
use Rattle.meaning.specs.Merging.{alone, joined, Building, nothing, Body, common_label, body_of, through, merge_within}
use Rattle.laws.specs.StepPlaces.{here}
use Rattle.laws.specs.Laying.{may_lie_refl, lays_step, lays_refl}
use Rattle.laws.specs.Walking.{Under, itself, place_under, place_among, EachPair, through_keeps}
use Rattle.laws.specs.Choosing.{body_keeps, merge_keeps}
use Rattle.laws.specs.Offering.{AllKept, nothing_all, meet_all, candidate_of}
use Rattle.laws.specs.JoinedBranches.{joined-lays}

-- a label may lie on itself, and the common label on both
same_label_lem : (l : ℕ) → any_or_same l l ≡ true
unfolding may_lie
same_label_lem l = may_lie_refl far l true

common_label_lem : (l m : ℕ) → (any_or_same (common_label l m) l ≡ true) × (any_or_same (common_label l m) m ≡ true)
unfolding common_label pick any_or_same
common_label_lem l m = go (eqb l m) refl
  where
    go : (same : Bool) → eqb l m ≡ same → (any_or_same (pick same l 0) l ≡ true) × (any_or_same (pick same l 0) m ≡ true)
    go true e = (same_label_lem l, or_second (eqb l 0) (eqb l m) e)
    go false e = (refl, refl)

-- a label and child steps can be laid at a step
FitsStep : ℕ → Forest → ℕ → Forest → Type 0
FitsStep l vs m ws = (any_or_same l m ≡ true) × (lays vs ws ≡ true)

-- the body of two steps can be laid at both, where what is built at them can be laid on the children of both
body-fits :
    (l : ℕ) (vs : Forest) (m : ℕ) (ws : Forest) (built : Building)
    → lays (joined built.kept) vs ≡ true
    → lays (joined built.kept) ws ≡ true
    → FitsStep (body_of l vs m ws built).label (body_of l vs m ws built).kids l vs
    × FitsStep (body_of l vs m ws built).label (body_of l vs m ws built).kids m ws
unfolding FitsStep
body-fits l vs m ws built on_v on_w =
    body_keeps (λ k ks. FitsStep k ks l vs × FitsStep k ks m ws) l vs m ws built
    (λ label below. ((same_label_lem l, lays_refl vs), (label, below)))
    (λ label below. ((label, below), (same_label_lem m, lays_refl ws)))
    (((common_label_lem l m).0, on_v), ((common_label_lem l m).1, on_w))

-- a candidate can be laid where its body can: near on a near child, far anywhere below
candidate-lies :
    (both_near child : Bool) (y : Axis) (body : Body) (v : Forest) (l : ℕ) (vs later : Forest)
    → (both_near ≡ true → (child && is_near y) ≡ true)
    → Under v child (step y l vs later)
    → FitsStep body.label body.kids l vs
    → lays (alone (candidate_of both_near body)) v ≡ true
unfolding alone lays pick FitsStep may_lie
candidate-lies true child y body v l vs later both u fits =
    let child-and-near = both refl in
    lays_step near y body.label l body.kids none vs v (place_among (and_first child _ child-and-near) u here)
    (and_both (is_near y || _) _ (or_first (is_near y) _ (and_second child _ child-and-near)) fits.0) fits.1 refl
candidate-lies false child y body v l vs later both u fits =
    lays_step far y body.label l body.kids none vs v (place_under u here) fits.0 fits.1 refl

-- every kept candidate can be laid on the child steps of both
LieOnBoth : ℕ → Forest → Forest → Building → Type 0
LieOnBoth own v w b = AllKept (λ c. lays (alone c) v ≡ true) b.kept × AllKept (λ c. lays (alone c) w ≡ true) b.kept

-- so it is of all that is built at the roots
through_lies : (limit : ℕ) (p q : Forest) → LieOnBoth 0 p q (through limit p true 0 q nothing)
unfolding LieOnBoth
through_lies limit p q =
    through_keeps limit LieOnBoth (λ v w. (nothing_all _, nothing_all _)) each p true 0 p q itself nothing (nothing_all _, nothing_all _)
  where
    each : EachPair limit LieOnBoth
    each own v w child x l vs later u child₂ y m ws later₂ u₂ built lie b h =
        let fits = body-fits l vs m ws built (joined-lays _ vs lie.0) (joined-lays _ ws lie.1) in
        let body = body_of l vs m ws built in (
          meet_all _ limit own _ body b (candidate-lies _ child x body v l vs later (and_first (child && is_near x) _) u fits.0) h.0,
          meet_all _ limit own _ body b (candidate-lies _ child₂ y body w m ws later₂ (and_second (child && is_near x) _) u₂ fits.1) h.1,
        )

-- the merge covers the first pattern
pub merge-covers-first : (limit : ℕ) (p q : Forest) → covers (merge_within limit p q).pattern p ≡ true
unfolding covers LieOnBoth
merge-covers-first limit p q =
    merge_keeps (λ merge. covers merge.pattern p ≡ true) limit p q
    (λ _. lays_refl p) (λ e. e) (joined-lays _ p (through_lies limit p q).0)

-- and the second
pub merge-covers-second : (limit : ℕ) (p q : Forest) → covers (merge_within limit p q).pattern q ≡ true
unfolding covers LieOnBoth
merge-covers-second limit p q =
    merge_keeps (λ merge. covers merge.pattern q ≡ true) limit p q
    (λ e. e) (λ _. lays_refl q) (joined-lays _ q (through_lies limit p q).1)
