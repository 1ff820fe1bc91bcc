-- `matching::masks::Masks::given` meets its contract: what is left from place k on gives what all sixteen give.
use Rattle.std.proofs.Common.{◌≡◌, ◌-◌}
use Rattle.base.specs.Loops.{fold_n}
use Rattle.meaning.specs.Numbers.{most_steps}
use Rattle.matching.specs.NodeTurns.{with_given, given}
use Rattle.matching.proofs.masks.Masks.given.Given as goal

abbrev pub invariant-loop-k : goal.invariant-loop-k
invariant-loop-k l = fold_n (with_given l.self l.word l.label) (most_steps - l.k) l.k l.bits ≡ given l.self l.word l.label
