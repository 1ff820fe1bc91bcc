-- `members::is_member` meets its contract: the bit of subscription i.
use mathlib.Core.Path.{refl}
use Rattle.meaning.specs.Fair.{is_member}
use Rattle.members.proofs.is_member.Goals as goal

pub returns : goal.returns
unfolding is_member
returns c = refl
