-- `tables::Entries::beside` meets its contract.
use Rattle.std.proofs.Common.{arith}
use Rattle.tables.specs.TableJudged.{places-stand}
use Rattle.tables.proofs.Entries.beside.Goals as goal

pub invariant_of-result : goal.invariant_of-result
invariant_of-result c = record { stand = places-stand _ _ c.requires (omega arith) }
