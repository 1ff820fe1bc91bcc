use mathlib.Core.Path.{◌≡◌, refl, ap, subst}
use lib.ListN.{length, get_or}
use lib.Seq.{set_out}
use native.Mathlib.Omega.{arith}
use Rattle.labels.specs.LabelPlaces.{labels_in}
use Rattle.turns.specs.declared.Turn.TheVariants as turn
use Rattle.turns.specs.declared.names.Name.{Name}
use Rattle.turns.specs.Turns.{turn_at}
use Rattle.turns.specs.Names.{name-further}
use Rattle.shapes.specs.Shapes.{no_steps}
use Rattle.shapes.specs.declared.Pattern.{Pattern}
use Rattle.turns.specs.declared.course.Course.{Course}
use Rattle.lines.specs.Kept.{count_most}
use Rattle.lines.specs.Found.{off_line}
use Rattle.turns.specs.Courses.{moved_course, opened_course, closed_course, named_course}
use Rattle.lines.specs.ReadSoFar.{Reached, reached-first, reached-stuck, reached_moves, reached-opens, reached_unopened}
use Rattle.lines.specs.ReadSoFar.{reached-closes, reached_names, reached-end, reached_off}
use Rattle.lines.proofs.steps.steps_of.Goals as goal

pub loop-c-init : goal.loop-c-init
unfolding no_steps
loop-c-init c =
    let none = ap (λ (p : Pattern). length p.steps) c.no_steps.ensures in
    rw c.first-c.ensures (reached-first _ _ _ _ refl none)

-- no line goes on so
pub returns-in-Stuck : goal.returns-in-Stuck
unfolding off_line
returns-in-Stuck c =
    let l = c.loop-c in
    let line = c.args.line.now in
    let e : turn_at l.c.mode (get_or line l.c.at 0) ≡ turn.Stuck = cc in
    let inside = c.loop-c-test.true in
    reached_off _ _ _ _ (reached-stuck _ _ l.invariant inside e) refl

-- the byte leads on
pub loop-c-smaller-in-Moves : goal.loop-c-smaller-in-Moves
unfolding moved_course
loop-c-smaller-in-Moves c = omega (arith, ap (λ (x : Course). x.at) c.moved-c.ensures)

pub loop-c-preserved-in-Moves : goal.loop-c-preserved-in-Moves
loop-c-preserved-in-Moves c =
    let l = c.loop-c in
    let line = c.args.line.now in
    let e : turn_at l.c.mode (get_or line l.c.at 0) ≡ turn.Moves c.in-Moves.m = cc in
    let inside = c.loop-c-test.true in
    rw c.moved-c.ensures (reached_moves _ _ l.invariant inside _ e)

-- a bracket opens
pub opened-c-requires : goal.opened-c-requires
opened-c-requires c = (omega arith, c.loop-c.invariant.low)

pub loop-c-smaller-in-Opens : goal.loop-c-smaller-in-Opens
unfolding opened_course
loop-c-smaller-in-Opens c = omega (arith, ap (λ (x : Course). x.at) c.opened-c.ensures.0)

pub loop-c-preserved-in-Opens : goal.loop-c-preserved-in-Opens
loop-c-preserved-in-Opens c =
    let l = c.loop-c in
    let line = c.args.line.now in
    let e : turn_at l.c.mode (get_or line l.c.at 0) ≡ turn.Opens = cc in
    let inside = c.loop-c-test.true in
    let r = c.opened-c.ensures in
    rw (r.0, r.1) (reached-opens _ _ l.invariant inside e)

-- a bracket closes that isn't open
pub returns-then-c-eq0 : goal.returns-then-c-eq0
unfolding off_line
returns-then-c-eq0 c =
    let l = c.loop-c in
    let line = c.args.line.now in
    let e : turn_at l.c.mode (get_or line l.c.at 0) ≡ turn.Closes = cc in
    let inside = c.loop-c-test.true in
    reached_off _ _ _ _ (reached_unopened _ _ l.invariant inside e c.if-c-eq0.true) refl

-- one that is
pub closed-c-requires : goal.closed-c-requires
closed-c-requires c = (omega arith, omega (arith, c.if-c-eq0.false))

pub loop-c-smaller-in-Closes : goal.loop-c-smaller-in-Closes
unfolding closed_course
loop-c-smaller-in-Closes c = omega (arith, ap (λ (x : Course). x.at) c.closed-c.ensures)

pub loop-c-preserved-in-Closes : goal.loop-c-preserved-in-Closes
loop-c-preserved-in-Closes c =
    let l = c.loop-c in
    let line = c.args.line.now in
    let e : turn_at l.c.mode (get_or line l.c.at 0) ≡ turn.Closes = cc in
    let inside = c.loop-c-test.true in
    rw c.closed-c.ensures (reached-closes _ _ l.invariant inside e (omega (arith, c.if-c-eq0.false)))

-- a name
pub named-c-requires : goal.named-c-requires
named-c-requires c = rw c.loop-c.invariant.counts (count_most _)

pub loop-c-smaller-then-k-lt-MOST_STEPS : goal.loop-c-smaller-then-k-lt-MOST_STEPS
unfolding named_course
loop-c-smaller-then-k-lt-MOST_STEPS c =
    let args = c.args in
    let at_name = ap (λ (x : Course). x.at) c.named-c.ensures in
    let name = ap (λ (x : Name). x.end) c.name_at-n.ensures.0 in
    omega (arith, at_name, name, name-further (labels_in args.s.now) args.line.now c.loop-c.c.at)

pub loop-c-preserved-then-k-lt-MOST_STEPS : goal.loop-c-preserved-then-k-lt-MOST_STEPS
loop-c-preserved-then-k-lt-MOST_STEPS c =
    let l = c.loop-c in
    let line = c.args.line.now in
    let e : turn_at l.c.mode (get_or line l.c.at 0) ≡ turn.Names c.in-Names.axis = cc in
    let inside = c.loop-c-test.true in
    let name = c.name_at-n.ensures in
    let r = reached_names _ _ l.invariant inside _ _ e name.0 name.1 in
    rw (c.named-c.ensures, c.step_found-x.ensures) r

-- there is no place for a seventeenth
pub loop-c-smaller : goal.loop-c-smaller
unfolding named_course
loop-c-smaller c =
    let args = c.args in
    let at_name = ap (λ (x : Course). x.at) c.named-c.ensures in
    let name = ap (λ (x : Name). x.end) c.name_at-n.ensures.0 in
    omega (arith, at_name, name, name-further (labels_in args.s.now) args.line.now c.loop-c.c.at)

pub loop-c-preserved : goal.loop-c-preserved
loop-c-preserved c =
    let l = c.loop-c in
    let line = c.args.line.now in
    let e : turn_at l.c.mode (get_or line l.c.at 0) ≡ turn.Names c.in-Names.axis = cc in
    let inside = c.loop-c-test.true in
    let name = c.name_at-n.ensures in
    let r = reached_names _ _ l.invariant inside _ _ e name.0 name.1 in
    let room = l.invariant.room in
    rw c.named-c.ensures (subst (Reached _ _ _ _) (set_out _ _ _ (omega (arith, room, c.if-k-lt-MOST_STEPS.false))) r)

pub returns : goal.returns
returns c = rw c.at_end.ensures (reached-end _ _ c.loop-c.invariant (omega (arith, c.loop-c-test.false)))
