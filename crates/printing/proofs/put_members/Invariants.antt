-- `printing::put_members` meets its contract. The loop: the members still to come, put from here, give what all give.
use Rattle.std.proofs.Common.{◌-◌, false}
use Rattle.texts.specs.Puts.{StillToPut}
use Rattle.printing.specs.MemberTexts.{numbers_text, members_from}
use Rattle.printing.proofs.put_members.Given as goal

abbrev pub invariant-loop-k : goal.invariant-loop-k
invariant-loop-k l =
    StillToPut l.initial.text (numbers_text false (members_from l.members 0 (l.n - 0)))
    l.text (numbers_text l.started (members_from l.members l.k (l.n - l.k)))
