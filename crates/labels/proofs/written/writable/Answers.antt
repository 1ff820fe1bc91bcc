-- `labels::written::writable` meets its contract.
use Rattle.std.specs.Prelude.{IsTrue, ◌↔◌}
use Rattle.std.specs.List.{AllPass}
use Rattle.std.proofs.Common.{rules}
use Rattle.std.proofs.iter.runs.Made.{chains}
use Rattle.base.specs.Chains.{every_asked}
use Rattle.meaning.specs.Notation.{unbarred, writable}
use Rattle.labels.proofs.written.writable.Goals as goal

pub returns : goal.returns
unfolding writable unbarred
returns c = let said : IsTrue c.all.result ↔ AllPass unbarred c.args.text.now = search (rules, chains) in every_asked _ _ _ said
