-- The merge has at most one near step below the root where both patterns have at most one.
use Rattle.std.specs.Prelude.{ℕ, suc, ◌+◌, ◌≤◌, ◌≡◌, refl, Bool, true, false, ◌&&◌, List, [], ◌∷◌}
use Rattle.std.proofs.Common.{arith}
use Rattle.base.specs.Choice.{pick}
use Rattle.base.specs.Lists.{total}
use Rattle.base.specs.ListLaws.{total-append, total-keep}
use Rattle.meaning.specs.Forest.{Axis, near, far, is_near, Forest, none, step}
use Rattle.meaning.specs.Merging.{Branch, joined, stays_beside, Building, nothing, Body, meet, meet_at, across, through, merge_within}
use Rattle.laws.specs.Choosing.{staying, offer_keeps, merge_keeps}
use Rattle.laws.specs.Offering.{candidate_of}

-- how many of the root steps are near
unfoldable pub nears : Forest → ℕ
nears none = 0
nears (step near l kids later) = suc (nears later)
nears (step far l kids later) = nears later

-- one where it holds, otherwise none
one : Bool → ℕ
one true = 1
one false = 0

-- one for a near branch
near_of : Branch → ℕ
near_of c = one (is_near c.axis)

-- of joined branches, as many root steps are near as branches
joined-nears : (cs : List Branch) → nears (joined cs) ≡ total near_of cs
unfolding joined nears total near_of one is_near
joined-nears [] = refl
joined-nears (c ∷ cs) = go c.axis (joined-nears cs)
  where
    go : (a : Axis) → nears (joined cs) ≡ total near_of cs → nears (step a c.label c.kids (joined cs)) ≡ one (is_near a) + total near_of cs
    go near h = omega arith
    go far h = omega arith

-- how many near ones are kept
nears_kept : Building → ℕ
nears_kept b = total near_of b.kept

-- a candidate is near if both are near children
candidate-nears : (both_near : Bool) (body : Body) → near_of (candidate_of both_near body) ≡ one both_near
unfolding near_of one is_near pick
candidate-nears true body = refl
candidate-nears false body = refl

-- a candidate adds at most itself
meet-nears : (limit own : ℕ) (both_near : Bool) (body : Body) (b : Building) → nears_kept (meet limit own both_near body b) ≤ nears_kept b + one both_near
unfolding nears_kept meet total
meet-nears limit own both_near body b =
    let c = candidate_of both_near body in
    offer_keeps (λ ks. total near_of ks ≤ total near_of b.kept + one both_near) limit own c _ (omega arith)
    (λ _. omega (arith, candidate-nears both_near body, total-append near_of (staying c b.kept) (c ∷ []), total-keep near_of (stays_beside c) b.kept))

-- the near ones among the children of a place, or none below them
nears_at : Bool → Forest → ℕ
nears_at true f = nears f
nears_at false f = 0

-- the first step is one of them if it is a near child
nears_at-step : (child : Bool) (y : Axis) (m : ℕ) (ws later : Forest) → nears_at child (step y m ws later) ≡ one (child && is_near y) + nears_at child later
unfolding nears_at nears one is_near
nears_at-step true near m ws later = omega arith
nears_at-step true far m ws later = omega arith
nears_at-step false y m ws later = omega arith

-- going across, a near step meets the near children, and another meets none
across-nears :
    (near_v : Bool) (pair : Bool → ℕ → Forest → Building → Building)
    → ((near_w : Bool) (m : ℕ) (ws : Forest) (b : Building) → nears_kept (pair near_w m ws b) ≤ nears_kept b + one (near_v && near_w))
    → (w : Forest) (child : Bool) (b : Building)
    → nears_kept (across pair child w b) ≤ nears_kept b + nears_at (near_v && child) w
unfolding across nears_at one
across-nears near_v pair each none child b = omega arith
across-nears true pair each (step y m ws later) child b =
    let met = pair (child && is_near y) m ws b in
    let inside = across-nears true pair each ws false met in
    omega (arith, nears_at-step child y m ws later, each (child && is_near y) m ws b, inside, across-nears true pair each later child (across pair false ws met))
across-nears false pair each (step y m ws later) child b =
    let met = pair (child && is_near y) m ws b in
    let inside = across-nears false pair each ws false met in
    omega (arith, each (child && is_near y) m ws b, inside, across-nears false pair each later child (across pair false ws met))

-- all pairs meet at most the near children of the first, where the second has at most one
through-nears :
    (limit own : ℕ) (w : Forest)
    → nears w ≤ 1
    → (v : Forest) (child : Bool) (b : Building)
    → nears_kept (through limit v child own w b) ≤ nears_kept b + nears_at child v
unfolding through meet_at nears_at one
through-nears limit own w few none child b = omega arith
through-nears limit own w few (step x l vs later) child b =
    let pair = meet_at limit own (child && is_near x) l vs (λ ws. through limit vs true 1 ws nothing) in
    let met = across pair true w b in
    let inside = through-nears limit own w few vs false met in
    omega (
      arith,
      nears_at-step child x l vs later,
      at_most (child && is_near x),
      across-nears (child && is_near x) pair (λ near_w m ws b₂. meet-nears limit own _ _ b₂) w true b,
      inside,
      through-nears limit own w few later child (through limit vs false own w met),
    )
  where
    at_most : (near_v : Bool) → nears_at (near_v && true) w ≤ one near_v
    at_most true = few
    at_most false = omega arith

-- at most one root step of the merge is near
pub merge-nears : (limit : ℕ) (p q : Forest) → nears p ≤ 1 → nears q ≤ 1 → nears (merge_within limit p q).pattern ≤ 1
unfolding nears_kept nears_at total nothing
merge-nears limit p q few few₂ =
    merge_keeps (λ merge. nears merge.pattern ≤ 1) limit p q (λ _. few) (λ _. few₂)
    (omega (arith, joined-nears (through limit p true 0 q nothing).kept, through-nears limit 0 q few₂ p true nothing))
