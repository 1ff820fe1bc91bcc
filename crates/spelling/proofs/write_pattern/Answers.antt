-- `spelling::write_pattern` meets its contract: the sheet is judged first, then the pattern's bytes, and a refusal leaves the output
-- as found.
use Rattle.base.specs.Exits.{exits}
use mathlib.Core.Path.{sym, ◌∙◌}
use Rattle.meaning.specs.LineCalls.{output_answer}
use Rattle.reading.specs.SheetJudged.{sheet-stands}
use Rattle.writing.specs.Gives.{gives-refusal, gives_same}
use Rattle.spelling.specs.OnlyPattern.{only_taken}
use Rattle.spelling.specs.TextSays.{bytes-said, bytes-refused, pattern_said_lem, pattern-refused}
use Rattle.spelling.proofs.write_pattern.Goals as goal

pub write_line-requires : goal.write_line-requires
write_line-requires c = (
  sheet-stands _ _ (sym c.sheet.ensures ∙ c.in_ok-sheet.was),
  rw c.pattern_at.ensures (only_taken _ _ _ (sym c.only_pattern.ensures ∙ c.in_ok-only_pattern.was)).1,
)

pub returns : goal.returns
returns c =
    let bytes = bytes-said _ _ _ c.byte_at.ensures.0 _ (sym c.only_pattern.ensures ∙ c.in_ok-only_pattern.was) _ c.pattern_at.ensures in
    let said = pattern_said_lem _ _ _ (sym c.sheet.ensures ∙ c.in_ok-sheet.was) in
    gives_same output_answer _ _ _ (bytes ∙ said) _ _ c.write_line.ensures

pub returns-in_err-only_pattern : goal.returns-in_err-only_pattern
unfolding output_answer
returns-in_err-only_pattern c =
    let bytes = bytes-refused _ _ _ c.byte_at.ensures.0 _ (sym c.only_pattern.ensures ∙ c.in_err-only_pattern.was) in
    let said = pattern_said_lem _ _ _ (sym c.sheet.ensures ∙ c.in_ok-sheet.was) in
    rw (exits _ _ c.from_residual-in_err-only_pattern.ensures.1) (gives-refusal output_answer _ _ _ (bytes ∙ said))

pub returns-in_err-sheet : goal.returns-in_err-sheet
unfolding output_answer
returns-in_err-sheet c =
    rw (exits _ _ c.from_residual.ensures.1) (gives-refusal output_answer _ _ _ (pattern-refused _ _ _ (sym c.sheet.ensures ∙ c.in_err-sheet.was)))
