-- A pattern as a line: its text is put into 1,024 bytes, which are enough, and written where there is room for it.
use Rattle.std.specs.Prelude.{ℕ, ◌≤◌, ◌<◌, ◌≡◌, Bool, not, List, length, take, replicate, Ok, Err}
use Rattle.std.proofs.Math.Path.{refl}
use Rattle.std.proofs.Common.{sym, ◌∙◌, arith, take_at}
use Rattle.std.proofs.Math.Bool.{true, false}
use borrow.Author.Tests.{not-true, not-false, le-leb}
use Rattle.std.proofs.Math.Dec.{leb}
use Rattle.std.proofs.lemmas.List.{length-replicate}
use Rattle.base.specs.Choice.{pick_true, pick_false}
use Rattle.base.specs.Lists.{every}
use Rattle.meaning.specs.Numbers.{longest_line}
use Rattle.meaning.specs.Forest.{Forest, steps_of}
use Rattle.meaning.specs.PatternText.{pattern_text}
use Rattle.meaning.specs.Calls.{writes}
use Rattle.meaning.specs.LineCalls.{step_writable, text_writing, output_answer}
use Rattle.laws.specs.TextRoom.{sheet-sized, pattern-room}
use Rattle.shapes.specs.Shapes.{pattern_of, WellFormed}
use Rattle.shapes.specs.Steps.{count-size}
use Rattle.shapes.specs.declared.Pattern.{Pattern}
use Rattle.reading.specs.SheetPlaces.{sheet_at}
use Rattle.reading.specs.SheetJudged.{SheetStands}
use Rattle.texts.specs.PutText.{written, put, put_whole, same-room}
use Rattle.labels.specs.LabelPlaces.{labels_in}
use Rattle.writing.specs.OutputAfter.{written_over, not_written}
use Rattle.writing.specs.Gives.{Gives, gives-refusal, gives_same, gives-written, gives-no_room}
use Rattle.meaning.specs.declared.Refusal.TheVariants.{NoRoom, NotWritable}

-- ---- the text, put into a buffer

-- the first n bytes are the text
pub record FirstBytes (text bytes : List ℕ) (n : ℕ) : Type 0 where
  pub long : n ≡ length text
  pub within : n ≤ length bytes
  pub first : take n bytes ≡ text

-- 1,024 bytes are enough for the text of a pattern
pub line-put : (s : List ℕ) → SheetStands s → (p : Pattern) → WellFormed p → (after : List ℕ) (n : ℕ)
    → written after n ≡ put (written (replicate longest_line 0) 0) (pattern_text (labels_in s) (pattern_of p))
    → FirstBytes (pattern_text (sheet_at s).labels (pattern_of p)) after n
unfolding sheet_at
line-put s stands p sound after n h =
    let text = pattern_text (labels_in s) (pattern_of p) in
    let line = replicate {A = ℕ} longest_line 0 in
    let room : length line ≡ longest_line = length-replicate {A = ℕ} longest_line 0 in
    let sized = sheet-sized s _ stands.left stands.was_read in
    let enough : length text ≤ longest_line = pattern-room (labels_in s) sized (pattern_of p) (omega (arith, count-size p sound, sound.few)) in
    let whole = put_whole text line after n (omega arith) h in
    record {
      long = whole.0;
      within = omega (arith, whole.0, same-room line after 0 n text h);
      first = rw whole.1 (take_at text _ n (sym whole.0));
    }

-- ---- what is answered

module _ (ls : List (List ℕ)) (f : Forest) (out : List ℕ) (r : Bool) (said : r ≡ every (step_writable ls) (steps_of f)) where
  -- a label can't stand in a line
  pub line_refused : not r ≡ true → Gives output_answer out (text_writing ls f) (Err NotWritable) out
  unfolding output_answer text_writing
  line_refused e = gives-refusal output_answer out NotWritable _ (pick_false _ _ _ _ (sym said ∙ not-true r e) refl)

  -- otherwise its text is to be written
  line_is : not r ≡ false → writes tt (pattern_text ls f) ≡ text_writing ls f
  unfolding text_writing
  line_is e = pick_true _ _ _ _ (sym said ∙ not-false r e) refl

  -- there is no room for it
  pub line-no_room : not r ≡ false → (n : ℕ) → n ≡ length (pattern_text ls f) → length out < n
      → Gives output_answer out (text_writing ls f) (Err NoRoom) out
  unfolding output_answer
  line-no_room e n long short =
      let left = not_written out (pattern_text ls f) n long short in
      gives_same output_answer out _ _ (line_is e) _ _ (gives-no_room output_answer out tt _ false left.0 out left.1 refl)

  -- there is
  pub line-written : not r ≡ false → (n : ℕ) (part : List ℕ) → n ≡ length (pattern_text ls f) → part ≡ pattern_text ls f → n ≤ length out
      → (now : List ℕ) (next : ℕ) → written now next ≡ put (written out 0) part → Gives output_answer out (text_writing ls f) (Ok n) now
  unfolding output_answer written_over
  line-written e n part long is fits now next h =
      let text = pattern_text ls f in
      let room : leb (length text) (length out) ≡ true = le-leb (length text) (length out) (omega arith) in
      let whole = put_whole text out now next (omega arith) (rw is at h) in
      let over : now ≡ written_over out text = pick_true _ _ _ _ room whole.1 in
      rw long (gives_same output_answer out _ _ (line_is e) _ _ (gives-written output_answer out tt text true (sym room) now over refl))
