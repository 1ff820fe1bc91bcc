use Rattle.std.proofs.Common.{refl}
use Rattle.texts.specs.Puts.{puts_is, still-first, still-goes_on, still-stays, still_none}
use Rattle.printing.proofs.MemberTexts.{members-text, member_here, member_not, members-end}
use Rattle.printing.proofs.put_members.Goals as goal
use Rattle.printing.proofs.put_members.Goals.{then-is_member, else-is_member}

pub loop-k-init : goal.loop-k-init
loop-k-init c = still-first _ _

pub loop-k-preserved : goal.loop-k-preserved
loop-k-preserved c =
    let l = c.loop-k in
    elim c.if-is_member.branch [
      | then-is_member w ↦
          let here = member_here _ c.args.n l.k c.loop-k-test.true l.started _ c.is_member.ensures w.if-is_member.true in
          rw (w.text-is, w.started-is) (still-goes_on (still-goes_on l.invariant _ here w.put_if.ensures) _ refl w.put_decimal.ensures)
      | else-is_member w ↦
          let here = member_not _ c.args.n l.k c.loop-k-test.true l.started _ c.is_member.ensures w.if-is_member.false in
          rw (w.text-is, w.started-is) (still-stays l.invariant here)
    ]

pub returns : goal.returns
returns c = puts_is (members-text _ _) (still_none c.loop-k.invariant (members-end _ _ _ _ c.loop-k-test.false))
