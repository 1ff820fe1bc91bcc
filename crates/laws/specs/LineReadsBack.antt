-- The text of a sound pattern whose labels can stand in a line is a line of at most 1,024 bytes that reads back as the same pattern;
-- and so is what is written of a pattern, by its bytes or as a subscription.
use Rattle.std.specs.Prelude.{ℕ, ◌≤◌, ◌≡◌, true, List, length}
use Rattle.std.proofs.Common.{sym, ap, ◌∙◌, subst, arith, ltb-true}
use Rattle.base.specs.Lists.{every}
use Rattle.base.specs.Replacing.{place_in}
use Rattle.meaning.specs.Numbers.{most_steps, longest_line}
use Rattle.meaning.specs.Reader.{read}
use Rattle.meaning.specs.Forest.{Forest, none, size, steps_of}
use Rattle.meaning.specs.Sections.{Sheet, sheet}
use Rattle.meaning.specs.Written.{pattern_bytes}
use Rattle.meaning.specs.PatternText.{pattern_text}
use Rattle.meaning.specs.Notation.{Sketch, Line, steps_drawn}
use Rattle.meaning.specs.Calls.{judged, is_subscription, subscription, writes}
use Rattle.meaning.specs.LineCalls.{drawn_writing, step_writable, text_writing, only_pattern, pattern_writing, subscription_writing}
use Rattle.laws.specs.Readers.{test-written, judged-written}
use Rattle.laws.specs.Labels.{sheet_distinct}
use Rattle.laws.specs.MergeNears.{nears}
use Rattle.laws.specs.SoundPatterns.{SoundPattern}
use Rattle.laws.specs.RoundTrip.{only_pattern-read, sheet-read}
use Rattle.laws.specs.TextRoom.{sheet-sized, pattern-room}
use Rattle.laws.specs.LineAnswers.{LineWrites, line_writes}
use Rattle.laws.specs.LineForest.{drawn_size_lem, drawn-written}
use Rattle.laws.specs.LineWritten.{sketched, written-line, forest-back, names_known}

-- ---- the text of a sound pattern

-- a text is a line of at most 1,024 bytes, and what is written of that line is these bytes
pub record ReadsBack (s text bs : List ℕ) : Type 0 where
  pub drawing : Sketch
  pub line : Line text drawing
  pub short : length text ≤ longest_line
  pub back : LineWrites s text bs

-- with the labels of a sheet that was read there is room in a line for the text of any pattern within the limit of steps
pub text-short : (s left : List ℕ) (sh : Sheet) → sheet s ≡ read sh left → (f : Forest) → size f ≤ most_steps → length (pattern_text sh.labels f) ≤ longest_line
text-short s left sh was_read = pattern-room sh.labels (sheet-sized s sh left was_read)

module _ (s left : List ℕ) (sh : Sheet) (was_read : sheet s ≡ read sh left) (f : Forest) (sound : SoundPattern (length sh.labels) f) where
  -- what a line draws of the pattern is written as the pattern's bytes
  drawn-back : drawn_writing sh.labels (steps_drawn (sketched sh.labels f)) ≡ writes tt (pattern_bytes f)
  drawn-back =
      let ls = sh.labels in
      let t = sketched ls f in
      let back = forest-back ls f (sheet_distinct s left sh was_read) sound.within in
      drawn-written ls t (names_known ls f sound.within)
      (omega (arith, drawn_size_lem ls t, ap size back, sound.few)) (omega (arith, ap nears back, sound.lone))
      ∙ ap (λ g. writes tt (pattern_bytes g)) back

  -- so where its labels can stand in a line, the text reads back as the pattern
  pub text-reads-back : every (step_writable sh.labels) (steps_of f) ≡ true → ReadsBack s (pattern_text sh.labels f) (pattern_bytes f)
  text-reads-back fits =
      let ls = sh.labels in
      let short = text-short s left sh was_read f sound.few in
      let line = written-line ls (sheet-sized s sh left was_read) f sound.within fits in
      record {
        drawing = sketched ls f;
        line = line;
        short = short;
        back = line_writes s left sh was_read (pattern_text ls f) (sketched ls f) line short (pattern_bytes f) drawn-back;
      }

-- ---- what is written

-- of a pattern's bytes it reads back as the same bytes
pub pattern-reads-back : (s p text : List ℕ) → pattern_writing s p ≡ writes tt text → ReadsBack s text p
unfolding pattern_writing text_writing
pattern-reads-back s p text h =
    let on = judged-written (sheet s) _ h in
    let ls = on.0.labels in
    let judged = judged-written (only_pattern (length ls) p) _ on.3 in
    let f = judged.0 in
    let r = only_pattern-read (length ls) p f judged.1 judged.2 in
    let made = test-written (every (step_writable ls) (steps_of f)) _ _ judged.3 in
    let same : pattern_text ls f ≡ text = cc in
    let back = text-reads-back s on.1 on.0 on.2 f r.0 made.0 in
    subst (λ t. ReadsBack s t p) same (subst (ReadsBack s (pattern_text ls f)) (sym r.1) back)

-- of a subscription it reads back as its steps
pub subscription-reads-back : (s left : List ℕ) (sh : Sheet) → sheet s ≡ read sh left → (i : ℕ) (text : List ℕ)
    → subscription_writing s i ≡ writes tt text → ReadsBack s text (pattern_bytes (subscription sh i))
unfolding subscription_writing text_writing is_subscription subscription judged
subscription-reads-back s left sh was_read i text h =
    let ls = sh.labels in
    let f = subscription sh i in
    let there = test-written (is_subscription sh i) _ _ (rw was_read at h) in
    let made = test-written (every (step_writable ls) (steps_of f)) _ _ there.1 in
    let same : pattern_text ls f ≡ text = cc in
    let sound = (sheet-read s left sh was_read).sound f (place_in sh.patterns i none (ltb-true i (length sh.patterns) there.0)) in
    subst (λ t. ReadsBack s t (pattern_bytes f)) same (text-reads-back s left sh was_read f sound made.0)
