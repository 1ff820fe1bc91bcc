-- `offering::meet` meets its contract: the candidate is the body with its axis, and its mark counts.
use Prim.Native.Nat.{ℕ, ◌≤◌}
use mathlib.Core.Path.{◌≡◌, ◌∙◌}
use mathlib.Core.Bool.{Bool, true, false, ◌||◌}
use mathlib.Core.Logic.{◌⊎◌, inl, inr}
use native.Mathlib.Omega.{arith}
use Rattle.base.specs.Choice.{pick}
use Rattle.meaning.specs.Forest.{near, far, axis_of}
use Rattle.offering.specs.Offers.{body_in}
use Rattle.offering.specs.Candidates.{body-count, candidate, only_branch, met}
use Rattle.offering.proofs.meet.Goals as goal
use Rattle.offering.proofs.meet.Goals.{then-both, else-both, then-b, else-b}

-- near is 0, far 1
axis-is : (x : ℕ) (both : Bool) → ((both ≡ true) × (x ≡ 0)) ⊎ ((both ≡ false) × (x ≡ 1)) → axis_of x ≡ pick both near far
unfolding pick axis_of
axis-is x both (inl h) = rw (h.0, h.1)
axis-is x both (inr h) = rw (h.0, h.1)

pub branch-c-requires : goal.branch-c-requires
branch-c-requires c =
    let low : c.if-both.axis ≤ 1 = elim c.if-both.branch [ then-both w ↦ omega arith | else-both w ↦ omega arith ] in
    (c.requires.2.stands.sound, omega arith, body-count c.args.body (body_in c.args.body) c.requires.2, low)

pub offer-requires : goal.offer-requires
offer-requires c =
    let s = c.requires in
    let x = axis-is c.if-both.axis c.args.both
    (elim c.if-both.branch [ then-both w ↦ inl (w.if-both.true, w.axis-is) | else-both w ↦ inr (w.if-both.false, w.axis-is) ]) in
    (s.0, s.1, only_branch _ _ (candidate _ _ s.2 _ _ _ x c.branch-c.ensures))

pub returns : goal.returns
returns c =
    let x = axis-is c.if-both.axis c.args.both
    (elim c.if-both.branch [ then-both w ↦ inl (w.if-both.true, w.axis-is) | else-both w ↦ inr (w.if-both.false, w.axis-is) ]) in
    let marked : c.if-b.clipped ≡ (c.args.b.clipped || c.args.body.clipped) =
    elim c.if-b.branch [ then-b w ↦ rw w.if-b.true (w.clipped-is ∙ w.if-b.true) | else-b w ↦ rw w.if-b.false w.clipped-is ] in
    met _ _ _ _ _ _ _ (candidate _ _ c.requires.2 _ _ _ x c.branch-c.ensures) marked c.offer.ensures
