-- `members::put_members` meets its contract: the eight bytes of the number, the low byte first, stand from the place on.
use Rattle.std.proofs.Common.{◌≡◌, ◌∙◌, ◌+◌, ◌≤◌, ℕ, List, ◌++◌, arith, length, take, drop, drop-drop}
use Rattle.std.proofs.lemmas.List.Edits.{sets, sets-eq}
use mathlib.Core.List.{append_assoc}
use Rattle.meaning.specs.Written.{number_bytes}
use Rattle.members.specs.MemberBytes.{members_in_memory, length-number_bytes}
use Rattle.members.proofs.put_members.Goals as goal

-- bytes in the place of as many
over : (l bs : List ℕ) (a k : ℕ) → k ≡ length bs → a + k ≤ length l → take a l ++ (bs ++ drop k (drop a l)) ≡ sets l a bs
over l bs a k e h = rw (e, drop-drop, sets-eq bs l a (omega arith), append_assoc)

pub returns : goal.returns
returns c =
    let bytes = c.copy_from_slice.ensures.after ∙ c.to_le_bytes.ensures ∙ members_in_memory c.args.members in
    rw bytes (over c.args.out.now (number_bytes 8 c.args.members) c.args.at _ (omega (arith, length-number_bytes 8 c.args.members)) (omega arith))
