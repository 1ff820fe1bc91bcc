-- `matching::word_by` meets its contract: there are more words than nodes.
use Rattle.std.proofs.Common.{ap, get_or}
use Rattle.matching.proofs.word_by.Goals as goal

pub returns : goal.returns
returns g c = record { size = g.row.N; enough = c.requires.0; at_top = ap (λ words. get_or words 0 0) c.fill.ensures }
