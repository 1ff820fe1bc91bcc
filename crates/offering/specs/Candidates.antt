-- The candidate of a pair, made of its body, and what is built after it is offered.
use Rattle.std.specs.Prelude.{ℕ, ◌≤◌, ◌≡◌, Bool, ◌||◌}
use Rattle.std.proofs.Math.Path.{refl}
use Rattle.std.proofs.Common.{sym, ◌∙◌, ap, subst, arith}
use mathlib.Core.List.{[]}
use Rattle.base.specs.Choice.{pick}
use Rattle.meaning.specs.Forest.{near, far, axis_of, Forest, none, step, size, steps_from, steps_of}
use Rattle.meaning.specs.Covering.{step_at}
use Rattle.meaning.specs.Merging.{Branch, alone, Body, offer, meet}
use Rattle.shapes.specs.Shapes.{pattern_of, steps_in}
use Rattle.shapes.specs.declared.Pattern.{Pattern}
use Rattle.shapes.specs.Steps.{count-size}
use Rattle.shapes.specs.Holding.{StandsFor}
use Rattle.laws.specs.Outside.{Outside, read_back}
use Rattle.laws.specs.Children.{children_from, children_of}
use Rattle.laws.specs.Offering.{candidate_of}
use Rattle.offering.specs.declared.Marked.{Marked}
use Rattle.offering.specs.Branches.{first_branch, building_at}
use Rattle.offering.specs.Offers.{building_of, Built, IsBranch, body_in, IsBody}
use Rattle.meaning.specs.Numbers.{most_steps}

-- the body that a value is
pub body_in_lem : (m : Marked) (body : Body) → IsBody m body → body_in m ≡ body
unfolding body_in first_branch
body_in_lem m body h =
    let same : first_branch (pattern_of m.pattern) ≡ record { axis = near; label = body.label; kids = body.kids } = ap first_branch h.stands.pattern in
    λ i. record { label = (same i).label; kids = (same i).kids; clipped = h.mark i }

-- it is the body of itself
pub body_of-itself : (m : Marked) (body : Body) → IsBody m body → IsBody m (body_in m)
body_of-itself m body h = subst (IsBody m) (sym (body_in_lem m body h)) h

-- a body has a step
pub body-count : (m : Marked) (body : Body) → IsBody m body → 1 ≤ m.pattern.count
unfolding size
body-count m body h = omega (arith, count-size m.pattern h.stands.sound, ap size h.stands.pattern)

module _ (l : ℕ) (kids : Forest) where
  -- the first step's label
  first-label : (step_at (steps_of (step near l kids none)) 1).label ≡ l
  unfolding step_at steps_of steps_from
  first-label = refl

  -- and what is below it
  first-kids : children_of (steps_of (step near l kids none)) 1 ≡ kids
  unfolding children_of children_from steps_of steps_from Outside
  first-kids = read_back 1 2 kids [] (omega arith) tt

-- the first step of a body with what is below it, and another axis
pub candidate : (m : Marked) (body : Body) → IsBody m body → (c : Pattern) (both_near : Bool) (x : ℕ) → axis_of x ≡ pick both_near near far
    → StandsFor c (step (axis_of x) (step_at (steps_in m.pattern) 1).label (children_of (steps_in m.pattern) 1) none)
    → StandsFor c (alone (candidate_of both_near body))
unfolding alone
candidate m body h c both_near x e s =
    let steps : steps_in m.pattern ≡ steps_of (step near body.label body.kids none) =
    sym h.stands.sound.written ∙ ap steps_of h.stands.pattern in
    rw (e, steps, first-label body.label body.kids, first-kids body.label body.kids) at s

-- it is the only root branch of its pattern
pub only_branch : (c : Pattern) (b : Branch) → StandsFor c (alone b) → IsBranch c
unfolding IsBranch first_branch alone
only_branch c b s = (s.sound, rw s.pattern)

-- the branch of a pattern with one
first_alone : (x : Branch) → first_branch (alone x) ≡ x
unfolding first_branch alone
first_alone x = refl

-- what is built after the candidate is offered
pub met : (own : ℕ) (b m r : Marked) (both_near marked : Bool) (c : Pattern) → StandsFor c (alone (candidate_of both_near (body_in m)))
    → marked ≡ (b.clipped || m.clipped)
    → Built own r (offer most_steps own (first_branch (pattern_of c)) (building_of (record { pattern = b.pattern; clipped = marked })))
    → Built own r (meet most_steps own both_near (body_in m) (building_of b))
unfolding meet building_of building_at body_in
met own b m r both_near marked c s e h =
    let first : first_branch (pattern_of c) ≡ candidate_of both_near (body_in m) = ap first_branch s.pattern ∙ first_alone (candidate_of both_near (body_in m)) in
    rw (first, e) at h
