-- `spelling::line::all_writable` meets its contract.
use Rattle.std.specs.Prelude.{IsTrue, ◌↔◌}
use Rattle.std.specs.List.{AllPass}
use Rattle.std.proofs.Common.{rules}
use Rattle.std.proofs.iter.runs.Made.{chains}
use Rattle.base.specs.Chains.{every_asked}
use Rattle.meaning.specs.LineCalls.{step_writable}
use Rattle.reading.specs.SheetPlaces.{sheet_at}
use Rattle.spelling.proofs.line.all_writable.Goals as goal

pub returns : goal.returns
unfolding step_writable sheet_at
returns c =
    let said : IsTrue c.all.result ↔ AllPass (step_writable (sheet_at c.args.s.now).labels) c.steps.result.now = search (rules, chains) in
    rw (c.requires.written, ← c.steps.ensures) (every_asked _ _ _ said)
