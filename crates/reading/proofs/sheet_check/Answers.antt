-- `reading::sheet_check` meets its contract.
use Rattle.std.proofs.Common.{ap, sym, ◌∙◌}
use Rattle.base.specs.Exits.{exits}
use Rattle.places.specs.Bytes.{number_at}
use Rattle.reading.specs.SheetSection.{sheet_number_lem}
use Rattle.reading.proofs.sheet_check.Goals as goal

pub returns : goal.returns
unfolding number_at
returns c = ap number_at (sym c.in_ok-sheet.was ∙ c.sheet.ensures) ∙ sheet_number_lem _

pub returns-in_err-sheet : goal.returns-in_err-sheet
unfolding number_at
returns-in_err-sheet c =
    rw (exits _ _ c.from_residual.ensures.1) (ap number_at (sym c.in_err-sheet.was ∙ c.sheet.ensures) ∙ sheet_number_lem _)
