-- The proof of the cycle of calls {across, body_at, build_at, new_body}. The measures fall with the steps of p that are left.
use mathlib.Core.Path.{◌≡◌, refl, ◌∙◌, subst}
use mathlib.Core.Bool.{◌&&◌}
use native.Mathlib.Omega.{arith}
use Rattle.meaning.specs.Merging.{common_label}
use Rattle.shapes.specs.Shapes.{no_steps-stand}
use Rattle.shapes.specs.Steps.{step_in, step-number}
use Rattle.covering.specs.PairNotes.{PairOfSteps}
use Rattle.offering.specs.Offers.{IsBody}
use Rattle.offering.specs.Candidates.{body_of-itself}
use Rattle.merging.specs.PairWalk.{near_child}
use Rattle.merging.specs.Bodies.{takes_first, takes-second, makes, body-found, body_kept}
use Rattle.merging.specs.Walks.{across_starts, across-step, through_starts, through-step}
use Rattle.merging.specs.Walks.{walks_on, walks_out, walks_through}
use Rattle.merging.proofs.Merging.+across_body_at_build_at_new_body.Goals as goal
use Rattle.merging.proofs.Merging.+across_body_at_build_at_new_body.Goals.{across-then-direct, across-else-direct}

pub across-loop-u-init : goal.across-loop-u-init
across-loop-u-init t c =
    let h = c.requires in
    (h.0, across_starts _ _ _ _ _ _ h.0.onto.second _ h.4 h.5 h.3)

pub across-returns-then-from-w : goal.across-returns-then-from-w
unfolding step_in
across-returns-then-from-w t c =
    let i = c.loop-u.invariant in
    (walks_out i.0.onto.second i.1 (omega arith) (rw (c.from.ensures, i.0.second) at c.if-from-w.true), i.0)

pub across-meet-b-requires : goal.across-meet-b-requires
across-meet-b-requires t c =
    let i = c.loop-u.invariant.1 in
    (i.sound, i.few, body_of-itself _ _ c.body_at-body.ensures.0)

pub across-loop-u-preserved : goal.across-loop-u-preserved
unfolding step_in
across-loop-u-preserved t c =
    let l = c.loop-u in
    let a = c.args in
    let q = a.self.now.q in
    let i = l.invariant in
    let found = rw (i.0.first, i.0.second) at c.body_at-body.ensures in
    let both : c.if-direct.meet ≡ (a.direct && near_child a.w (step_in q l.u)) =
    elim c.if-direct.branch [
      | across-then-direct w ↦ rw w.if-direct.true (w.meet-is ∙ rw i.0.second at w.near_child.ensures)
      | across-else-direct w ↦ rw w.if-direct.false (w.meet-is ∙ w.if-direct.false)
    ] in
    let made = across-step q _ _ _ _ a.w l.u _ _ _ _ _ found.0 refl both c.meet-b.ensures in
    (found.1, walks_on i.0.onto.second i.1 (omega arith) (rw (c.from.ensures, i.0.second) at c.if-from-w.false) c.meet-b.result made)

pub across-returns : goal.across-returns
across-returns t c =
    let i = c.loop-u.invariant in
    (walks_through i.0.onto.second i.1 (omega arith), i.0)

pub body_at-returns-in-Some : goal.body_at-returns-in-Some
body_at-returns-in-Some t c =
    let pair : PairOfSteps c.args.v c.args.w = omega arith in
    (body-found c.args.v c.args.w pair c.requires.0.bodies _ (rw c.cell-at.ensures.0 at c.in-Some.is), c.requires.0)

pub body_at-returns : goal.body_at-returns
body_at-returns t c =
    let pair : PairOfSteps c.args.v c.args.w = omega arith in
    let is = c.new_body-body.ensures.0 in
    let known = c.new_body-body.ensures.1 in (
      is,
      record {
        first = known.first;
        second = known.second;
        bodies = rw c.cell-at.ensures.0 (body_kept c.args.v c.args.w pair known.bodies c.new_body-body.result is);
        onto = known.onto;
        from = known.from;
      },
    )

pub build_at-loop-k-init : goal.build_at-loop-k-init
build_at-loop-k-init t c =
    let h = c.requires in
    let none = no_steps-stand _ c.no_steps.ensures in
    (h.0, through_starts _ _ _ _ h.0.onto.first _ none h.3 h.1)

pub build_at-returns-then-from-v : goal.build_at-returns-then-from-v
unfolding step_in
build_at-returns-then-from-v t c =
    let i = c.loop-k.invariant in
    (walks_out i.0.onto.first i.1 (omega arith) (rw (c.from.ensures, i.0.first) at c.if-from-v.true), i.0)

pub build_at-loop-k-preserved : goal.build_at-loop-k-preserved
unfolding step_in
build_at-loop-k-preserved t c =
    let l = c.loop-k in
    let a = c.args in
    let i = l.invariant in
    let met = rw (i.0.first, i.0.second) at c.across-b.ensures in
    let made = through-step a.self.now.p _ _ a.v l.k _ _ _ (rw i.0.first at c.near_child.ensures) met.0 in
    (met.1, walks_on i.0.onto.first i.1 (omega arith) (rw (c.from.ensures, i.0.first) at c.if-from-v.false) c.across-b.result made)

pub build_at-returns : goal.build_at-returns
build_at-returns t c =
    let i = c.loop-k.invariant in
    (walks_through i.0.onto.first i.1 (omega arith), i.0)

pub new_body-returns-then-lies_at : goal.new_body-returns-then-lies_at
new_body-returns-then-lies_at t c =
    let r = c.lies_at in
    let is = takes_first _ _ _ _ _ r.ensures.0 c.if-lies_at.true in
    let known = c.requires.0 in
    (subst (IsBody c.taken.result) is c.taken.ensures, record { first = refl; second = refl; bodies = known.bodies; onto = r.ensures.1; from = known.from })

pub new_body-returns-then-lies_at-2 : goal.new_body-returns-then-lies_at-2
new_body-returns-then-lies_at-2 t c =
    let r = c.lies_at in
    let z = c.lies_at-2 in
    let is = takes-second _ _ _ _ _ _ r.ensures.0 c.if-lies_at.false z.ensures.0 c.if-lies_at-2.true in (
      subst (IsBody c.taken-then-lies_at-2.result) is c.taken-then-lies_at-2.ensures,
      record { first = refl; second = refl; bodies = c.requires.0.bodies; onto = r.ensures.1; from = z.ensures.1 },
    )

pub new_body-returns : goal.new_body-returns
unfolding step_in
new_body-returns t c =
    let b = c.build_at in
    let a = c.args in
    let h = c.requires in
    let r = c.lies_at in
    let z = c.lies_at-2 in
    let x = step-number a.self.now.p h.0.onto.first a.v h.1 h.2 in
    let y = step-number a.self.now.q h.0.onto.second a.w h.3 h.4 in
    let label-is = c.common_label-label.ensures ∙ λ i. common_label (x i).label (y i).label in
    let is = makes _ _ _ _ _ _ r.ensures.0 c.if-lies_at.false z.ensures.0 c.if-lies_at-2.false _ label-is _ b.ensures.0 in
    (subst (IsBody c.made.result) is c.made.ensures, b.ensures.1)
