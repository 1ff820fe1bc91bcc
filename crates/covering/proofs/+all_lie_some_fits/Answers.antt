-- The proof of the cycle of calls {all_lie, some_fits}. The measures fall with the steps of A that are left.
use mathlib.Core.Path.{◌≡◌, ◌∙◌}
use mathlib.Core.Bool.{◌&&◌}
use mathlib.Core.Logic.{inl, inr}
use Prim.Native.Nat.{◌+◌}
use native.Mathlib.Omega.{arith}
use Rattle.shapes.specs.Shapes.{steps_in}
use Rattle.shapes.specs.Steps.{step_in, step-number}
use Rattle.covering.specs.Questions.{children_lie}
use Rattle.covering.specs.PairNotes.{PairOfSteps, Noted, known-lies, unknown_decides}
use Rattle.covering.specs.LayingLoops.{laying_starts, child_lies, child_doesn't, no_child, all_lay}
use Rattle.covering.specs.LayingLoops.{next-parent_tells, search_starts, block_ends, place_fits_lem, place_doesn't, steps-done}
use Rattle.covering.proofs.+all_lie_some_fits.Goals as goal
use Rattle.covering.proofs.+all_lie_some_fits.Goals.{some_fits-then-k-a, some_fits-else-k-a, some_fits-in-Some, some_fits-in-None}
use Rattle.covering.proofs.+all_lie_some_fits.Goals.{all_lie-else-from-v-via-then-from-v+else-not-some_fits, all_lie-else-from-v-via-else-from-v}

pub all_lie-loop-k-init : goal.all_lie-loop-k-init
all_lie-loop-k-init t c =
    let h = c.requires in
    (h.0, laying_starts _ _ _ _ h.0.first h.1)

pub all_lie-returns-then-not-some_fits : goal.all_lie-returns-then-not-some_fits
unfolding step_in
all_lie-returns-then-not-some_fits t c =
    let f = c.some_fits in
    (child_doesn't c.loop-k.invariant.1 (omega arith) (omega arith) f.ensures.0 c.if-not-some_fits.true, f.ensures.1)

pub all_lie-loop-k-preserved : goal.all_lie-loop-k-preserved
unfolding step_in
all_lie-loop-k-preserved t c =
    let i = c.loop-k.invariant in
    elim c.else-from-v.branch [
      | all_lie-else-from-v-via-then-from-v+else-not-some_fits w ↦
          rw w.notes-is (w.some_fits.ensures.1, child_lies i.1 (omega arith) (omega arith) w.some_fits.ensures.0 w.if-not-some_fits.false)
      | all_lie-else-from-v-via-else-from-v w ↦ rw w.notes-is (i.0, no_child i.1 (omega arith) (rw c.from.ensures at w.if-from-v.false))
    ]

pub all_lie-returns : goal.all_lie-returns
all_lie-returns t c =
    let i = c.loop-k.invariant in
    (all_lay i.1 (omega arith), i.0)

pub some_fits-loop-u-init : goal.some_fits-loop-u-init
unfolding step_in
some_fits-loop-u-init t c =
    let a = c.args.a in
    let h = c.requires in
    let same = step-number a h.0.first c.args.k h.1 h.2 in
    let told = next-parent_tells a h.0.first c.args.k h.1 c.if-k-a.next
    (elim c.if-k-a.branch [ some_fits-then-k-a w ↦ inl (w.if-k-a.true, w.next-is ∙ w.from-next.ensures) | some_fits-else-k-a w ↦ inr (w.if-k-a.false, w.next-is) ]) in
    (h.0, search_starts _ _ _ _ _ _ h.0.second h.3 same (rw (← told, ← same) c.starred_leaf-starred.ensures))

pub some_fits-returns-then-from-w : goal.some_fits-returns-then-from-w
unfolding step_in
some_fits-returns-then-from-w t c =
    let i = c.loop-u.invariant in
    (block_ends i.1 (omega arith) (omega arith), i.0)

pub some_fits-returns-then-fits : goal.some_fits-returns-then-fits
unfolding step_in
some_fits-returns-then-fits t c =
    let i = c.loop-u.invariant in
    let a = c.args.a in
    let b = c.args.b in
    let pair : PairOfSteps c.args.k (c.loop-u.u + 1) = omega (arith, c.requires.1) in
    let r : (c.match-known_at.fits ≡ (c.may_lie_below.result && children_lie (steps_in a) c.args.k (steps_in b) (c.loop-u.u + 1))) × Noted a b c.match-known_at.notes =
    elim c.match-known_at.branch [
      | some_fits-in-Some w ↦ rw (w.notes-is, w.fits-is) (known-lies i.0 c.args.k (c.loop-u.u + 1) pair _ w.in-Some.ensures, i.0)
      | some_fits-in-None w ↦
          rw (w.notes-is, w.fits-is)
          (unknown_decides w.all_lie.ensures.1 c.args.k (c.loop-u.u + 1) pair _ _ w.in-None.ensures w.all_lie.ensures.0 w.note-fits.ensures)
    ] in
    (place_fits_lem i.1 (omega arith) (omega arith) c.may_lie_below.ensures r.0 c.if-fits.true, r.1)

pub some_fits-loop-u-preserved : goal.some_fits-loop-u-preserved
unfolding step_in
some_fits-loop-u-preserved t c =
    let i = c.loop-u.invariant in
    let a = c.args.a in
    let b = c.args.b in
    let pair : PairOfSteps c.args.k (c.loop-u.u + 1) = omega (arith, c.requires.1) in
    let r : (c.match-known_at.fits ≡ (c.may_lie_below.result && children_lie (steps_in a) c.args.k (steps_in b) (c.loop-u.u + 1))) × Noted a b c.match-known_at.notes =
    elim c.match-known_at.branch [
      | some_fits-in-Some w ↦ rw (w.notes-is, w.fits-is) (known-lies i.0 c.args.k (c.loop-u.u + 1) pair _ w.in-Some.ensures, i.0)
      | some_fits-in-None w ↦
          rw (w.notes-is, w.fits-is)
          (unknown_decides w.all_lie.ensures.1 c.args.k (c.loop-u.u + 1) pair _ _ w.in-None.ensures w.all_lie.ensures.0 w.note-fits.ensures)
    ] in
    (r.1, place_doesn't i.1 (omega arith) (omega arith) c.may_lie_below.ensures r.0 c.if-fits.false)

pub some_fits-returns : goal.some_fits-returns
some_fits-returns t c =
    let i = c.loop-u.invariant in
    (steps-done i.1 (omega arith), i.0)
