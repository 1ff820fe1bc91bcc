-- `matching::fill` meets its contract: what is left, when the nodes above u have had their turns, gives what all give.
use Rattle.std.proofs.Common.{◌≡◌}
use Rattle.matching.specs.Document.{filled}
use Rattle.matching.proofs.fill.Given as goal

abbrev pub invariant-loop-u : goal.invariant-loop-u
invariant-loop-u l = let ns = l.nodes in filled l.masks ns.bytes.now ns.at l.u l.words ≡ filled l.masks ns.bytes.now ns.at ns.count l.initial.words
