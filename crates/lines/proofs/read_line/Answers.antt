-- `lines::read_line` meets its contract: the sheet is judged first, and a refusal leaves the output as found.
use Rattle.base.specs.Exits.{exits}
use mathlib.Core.Path.{sym, ◌∙◌}
use Rattle.lines.specs.Said.{line-said, line_refused}
use Rattle.lines.proofs.read_line.Goals as goal

pub returns : goal.returns
returns c =
    line-said _ _ _ _ (sym c.sheet.ensures ∙ c.in_ok-sheet.was) _ _ c.read_judged.ensures

pub returns-in_err-sheet : goal.returns-in_err-sheet
returns-in_err-sheet c =
    rw (exits _ _ c.from_residual.ensures.1) (line_refused _ _ _ _ (sym c.sheet.ensures ∙ c.in_err-sheet.was))
