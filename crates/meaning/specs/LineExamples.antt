-- The smallest examples that tell each definition of the lines from an easy misreading of it: lines derived by the grammar, then
-- lists, each under one claim, of lines read, of what the call answers for a line, and of patterns written. The edits in must-fail/
-- make each misreading, and a claim fails.
use Rattle.std.specs.Prelude.{Result, Ok, Err, ℕ, zero, suc, ◌≡◌, refl, true, false, replicate}
use Prim.Native.String.{String}
use mathlib.Core.List.{List, [], ◌∷◌, ◌++◌, map, flat_map}
use Rattle.base.specs.Choice.{pick}
use Rattle.base.specs.Lists.{some, every, keep, numbers_from}
use Rattle.meaning.specs.Reader.{go_on, ◌>>=◌, ◌>>◌, give, repeat, unless, byte, bytes, end}
use Rattle.meaning.specs.Forest.{axis_of, axis_number, Axis, near, far, children_in, forest, steps_from, steps_of}
use Rattle.meaning.specs.Sections.{same_label, label, labels, up_from, path_after, may_hang, near_root, is_near_root, a_step, steps, pattern, sheet}
use Rattle.meaning.specs.LabelBytes.{label_at}
use Rattle.meaning.specs.Written.{step_bytes, steps_bytes}
use Rattle.meaning.specs.PatternText.{ascii, axis_text, label_text, several, in_brackets, branches_text, pattern_text}
use Rattle.meaning.specs.Notation.{barred, unbarred, writable, Name, any, called, Named, starred, labelled, Sketch, blank, draw}
use Rattle.meaning.specs.Notation.{bare, last, more, whole, near_short, far_short, along, leaf, over, Line, dot, branches}
use Rattle.meaning.specs.Notation.{Drawn, drawn_size, drawn_from, steps_drawn}
use Rattle.meaning.specs.Lines.{start, moved, step_found, longer_name, longer_last, longer, opens_here, closes, name_or, slash_or, branch_or}
use Rattle.meaning.specs.Lines.{after_name, next_in, next, LineRead, off_at, draws, followed, all_closed, may_end, read_from, read_any, within, read_line}
use Rattle.meaning.specs.Calls.{judged, is_subscription, subscription, Writing, refuses, writes, with_room, after}
use Rattle.meaning.specs.LineCalls.{number_from, name_number, is_known, known_drawn, numbered_step, drawn_writing, in_order, line_judged, line_then, drawn_answer}
use Rattle.meaning.specs.LineCalls.{line_answer, line_output, step_writable, text_writing, only_pattern, pattern_writing, subscription_writing, output_answer}
use Rattle.meaning.specs.Given.{Given, refusal, gives, LineValues, lined_given, output_given}
use Rattle.meaning.specs.declared.LineRefusal.{LineRefusal}
use Rattle.meaning.specs.declared.Refusal.{Refusal}
use Rattle.meaning.specs.declared.Refusal.TheVariants.{BytesRemain, CountOutside, EndsEarly, LabelLength, LabelOutside, LabelUnknown, NoRoom, NotALine, NotThere, NotWritable, SecondNear}

-- ---- names, and steps that are drawn

unfoldable pub a : Name
a = called (ascii "a")

unfoldable pub b : Name
b = called (ascii "b")

unfoldable pub c : Name
c = called (ascii "c")

unfoldable pub drawn : ℕ → Axis → Name → Drawn
drawn parent axis name = record { parent = parent; axis = axis; name = name }

-- ---- lines derived by the grammar

named_a : Named (ascii "a") a
unfolding a ascii writable every unbarred barred some
named_a = labelled 97 [] refl

named-b : Named (ascii "b") b
unfolding b ascii writable every unbarred barred some
named-b = labelled 98 [] refl

named-c : Named (ascii "c") c
unfolding c ascii writable every unbarred barred some
named-c = labelled 99 [] refl

-- a space belongs to the label
named_a_b : Named (ascii "a b") (called (ascii "a b"))
unfolding ascii writable every unbarred barred some
named_a_b = labelled 97 (ascii " b") refl

pub line-dot : Line (ascii ".") blank
line-dot = dot

-- /a over /b, which stands in brackets in its short form, and over //c, the last, which stands without
unfoldable pub sketch1 : Sketch
sketch1 = draw near a (draw near b blank (draw far c blank blank)) blank

pub line1 : Line (ascii "/a[b]//c") sketch1
unfolding ascii axis_text sketch1
line1 =
    branches (
    bare (along near (over named_a (
    more (near_short (leaf named-b))
    (bare (along far (leaf named-c)))))))

-- //* over /b, in its short form, and beside it /a b over /c, in brackets though it is the last
unfoldable pub sketch2 : Sketch
sketch2 = draw far any (draw near b blank blank) (draw near (called (ascii "a b")) (draw near c blank blank) blank)

pub line2 : Line (ascii "[.//*/b][/a b/c]") sketch2
unfolding ascii axis_text sketch2
line2 =
    branches (
    more (far_short (over starred (bare (along near (leaf named-b)))))
    (last (whole (along near (over named_a_b (bare (along near (leaf named-c))))))))

-- ---- the bytes that no label has

-- of all bytes, the line feed and * . / [ ]: neither the backslash nor n, no space and no tab
pub barred-bytes : keep barred (numbers_from 0 256) ≡ (10 ∷ 42 ∷ 46 ∷ 47 ∷ 91 ∷ 93 ∷ [])
unfolding keep barred numbers_from some ascii pick
barred-bytes = refl

-- ---- the steps that are drawn

unfoldable pub sketched : List (List Drawn)
sketched = steps_drawn blank ∷ steps_drawn sketch1 ∷ steps_drawn sketch2 ∷ []

-- numbered from 1, a step before its own branches, and these before the branches after it
unfoldable pub expected_sketched : List (List Drawn)
expected_sketched =
    []
    ∷ (drawn 0 near a ∷ drawn 1 near b ∷ drawn 1 far c ∷ [])
    ∷ (drawn 0 far any ∷ drawn 1 near b ∷ drawn 0 near (called (ascii "a b")) ∷ drawn 3 near c ∷ [])
    ∷ []

-- ---- lines read

-- bytes, and what reading them is to give
pub record Example : Type 0 where
  pub line : List ℕ
  pub answer : LineRead

unfoldable pub drawing : String → List Drawn → Example
drawing line ds = record { line = ascii line; answer = draws ds }

unfoldable pub off : String → ℕ → Example
off line place = record { line = ascii line; answer = off_at place }

unfoldable pub sound : List Example
sound =
    -- the dot draws no step; / is near and // is far
    drawing "." []
    ∷ drawing "/a" (drawn 0 near a ∷ [])
    ∷ drawing "//a" (drawn 0 far a ∷ [])
    -- in brackets b means /b and .//b means //b, also for *, and at any depth
    ∷ drawing "[a]" (drawn 0 near a ∷ [])
    ∷ drawing "[/a]" (drawn 0 near a ∷ [])
    ∷ drawing "[//a]" (drawn 0 far a ∷ [])
    ∷ drawing "[.//a]" (drawn 0 far a ∷ [])
    ∷ drawing "[*]" (drawn 0 near any ∷ [])
    ∷ drawing "[.//*]" (drawn 0 far any ∷ [])
    ∷ drawing "/a[b[.//c]]" (drawn 0 near a ∷ drawn 1 near b ∷ drawn 2 far c ∷ [])
    -- what follows a name hangs on it; what follows a bracket hangs where the branch in it hangs
    ∷ drawing "/a/b" (drawn 0 near a ∷ drawn 1 near b ∷ [])
    ∷ drawing "[/a[/b]]" (drawn 0 near a ∷ drawn 1 near b ∷ [])
    ∷ drawing "/a[/b]/c" (drawn 0 near a ∷ drawn 1 near b ∷ drawn 1 near c ∷ [])
    ∷ drawing "[a]//b" (drawn 0 near a ∷ drawn 0 far b ∷ [])
    ∷ drawing "/a/b[c]" (drawn 0 near a ∷ drawn 1 near b ∷ drawn 2 near c ∷ [])
    -- nothing is skipped: a space, a tab, a carriage return and a zero byte are label bytes, and so are a quote, a backslash and an n
    ∷ drawing "/a b" (drawn 0 near (called (97 ∷ 32 ∷ 98 ∷ [])) ∷ [])
    ∷ drawing "/ \t\r\0\"\\n" (drawn 0 near (called (32 ∷ 9 ∷ 13 ∷ 0 ∷ 34 ∷ 92 ∷ 110 ∷ [])) ∷ [])
    -- the sketches above
    ∷ drawing "/a[b]//c" (steps_drawn sketch1)
    ∷ drawing "[.//*/b][/a b/c]" (steps_drawn sketch2)
    ∷ []

unfoldable pub faulty : List Example
faulty =
    -- where bytes only end early, their length
    off "" 0
    ∷ off "//" 2
    ∷ off "[a" 2
    -- a short form stands only directly after [, and is b or .//b
    ∷ off "a" 0
    ∷ off ".//a" 1
    ∷ off "[a].//b" 3
    ∷ off "[./a]" 3
    ∷ off "[.]" 2
    -- in brackets stands one branch, and each bracket that closes was open
    ∷ off "[[a]]" 1
    ∷ off "[a]]" 3
    -- an axis has at most two slashes, and a name behind it
    ∷ off "///a" 2
    ∷ off "/a/[b]" 3
    -- a name is * or a label, not both, and neither a dot nor a line feed is in it
    ∷ off "/*a" 2
    ∷ off "/a*" 2
    ∷ off "/a.b" 2
    ∷ off "/a\n" 2
    ∷ []

unfoldable pub lines : List Example
lines = sound ++ faulty

pub record AllRead : Type 0 where
  pub sketched : List (List Drawn)
  pub lines : List LineRead

unfoldable pub answers_read : AllRead
answers_read = record { sketched = sketched; lines = map (λ e. read_line e.line) lines }

unfoldable pub expected_read : AllRead
expected_read = record { sketched = expected_sketched; lines = map (λ e. e.answer) lines }

pub read-apart : answers_read ≡ expected_read
unfolding
    answers_read expected_read sketched expected_sketched drawing off sound faulty lines a b c drawn sketch1 sketch2 drawn_size drawn_from steps_drawn ascii pick some barred start moved step_found longer_name longer_last longer opens_here closes name_or slash_or branch_or after_name next_in next followed all_closed may_end read_from read_any within read_line
read-apart = refl

-- ---- the call for a line

-- labels a and b, and no pattern
unfoldable pub sheet_ab : List ℕ
sheet_ab = 2 ∷ (1 ∷ ascii "a" ++ (1 ∷ ascii "b" ++ (0 ∷ [])))

-- an output of n bytes
unfoldable pub room : ℕ → List ℕ
room n = replicate n 7

unfoldable pub line_answers : List (Result ℕ LineRefusal)
line_answers =
    -- each has two faults: the sheet is judged before 13; 13, with its place, before 14; 14 before 9; 9 before 10
    line_answer [] [] (ascii "/c]")
    ∷ line_answer [] sheet_ab (ascii "/c]")
    ∷ line_answer [] sheet_ab (ascii "[a][c]")
    ∷ line_answer [] sheet_ab (ascii "[a][b]")
    -- a label of which the sheet has only the beginning, and one with a space
    ∷ line_answer [] sheet_ab (ascii "/ab")
    ∷ line_answer [] sheet_ab (ascii "/a ")
    -- one near step beside far ones; two near steps below a step
    ∷ line_answer (room 10) sheet_ab (ascii "[a][//a]//b")
    ∷ line_answer (room 10) sheet_ab (ascii "/a[a][b]")
    -- room: one byte too few, just enough, and more
    ∷ line_answer (room 3) sheet_ab (ascii "/b")
    ∷ line_answer (room 4) sheet_ab (ascii "/b")
    ∷ line_answer (room 5) sheet_ab (ascii "/b")
    ∷ []

unfoldable pub line_outputs : List (List ℕ)
line_outputs =
    -- a step count, and of each step parent, axis and label, 0 for *; bytes behind the written part are as found
    line_output (room 3) sheet_ab (ascii ".")
    ∷ line_output (room 4) sheet_ab (ascii "/b")
    ∷ line_output (room 12) sheet_ab (ascii "//b[*]/a")
    -- as found on a refusal: 10; 9; 13
    ∷ line_output (room 3) sheet_ab (ascii "/b")
    ∷ line_output (room 8) sheet_ab (ascii "[a][b]")
    ∷ line_output (room 8) sheet_ab (ascii "/b]")
    ∷ []

-- what is given in each case: 13 comes with its place
unfoldable pub line_givens : List (Given LineValues)
line_givens = lined_given (Err (record { why = NotALine; place = 2 })) ∷ lined_given (Ok 4) ∷ []

pub record AllLined : Type 0 where
  pub answers : List (Result ℕ LineRefusal)
  pub outputs : List (List ℕ)
  pub givens : List (Given LineValues)

unfoldable pub answers_lined : AllLined
answers_lined = record { answers = line_answers; outputs = line_outputs; givens = line_givens }

unfoldable pub expected_lined : AllLined
expected_lined = record {
  answers =
      Err (record { why = EndsEarly; place = 0 })
      ∷ Err (record { why = NotALine; place = 2 })
      ∷ Err (record { why = LabelUnknown; place = 0 })
      ∷ Err (record { why = SecondNear; place = 0 })
      ∷ Err (record { why = LabelUnknown; place = 0 })
      ∷ Err (record { why = LabelUnknown; place = 0 })
      ∷ Ok 10
      ∷ Ok 10
      ∷ Err (record { why = NoRoom; place = 0 })
      ∷ Ok 4
      ∷ Ok 4
      ∷ [];
  outputs =
      (0 ∷ 7 ∷ 7 ∷ [])
      ∷ (1 ∷ 0 ∷ 0 ∷ 2 ∷ [])
      ∷ (3 ∷ 0 ∷ 1 ∷ 2 ∷ 1 ∷ 0 ∷ 0 ∷ 1 ∷ 0 ∷ 1 ∷ 7 ∷ 7 ∷ [])
      ∷ room 3
      ∷ room 8
      ∷ room 8
      ∷ [];
  givens =
      record { refused = true; number = 13; values = record { place = 2; length = 0 } }
      ∷ record { refused = false; number = 0; values = record { place = 0; length = 4 } }
      ∷ [];
}

pub lined_apart : answers_lined ≡ expected_lined
unfolding
    answers_lined expected_lined sheet_ab room line_answers line_outputs line_givens ascii pick some every keep flat_map barred start moved step_found longer_name longer_last longer opens_here closes name_or slash_or branch_or after_name next_in next followed all_closed may_end read_from read_any within read_line go_on ◌>>=◌ ◌>>◌ give repeat unless byte bytes end axis_number same_label label labels near_root is_near_root sheet step_bytes steps_bytes judged with_room after number_from name_number is_known known_drawn numbered_step drawn_writing in_order line_judged line_then drawn_answer line_answer line_output refusal gives lined_given
lined_apart = refl

-- ---- patterns written

-- labels a, b and a.b, which is not writable; s0 = /a, s1 = //a.b
unfoldable pub sheet_dot : List ℕ
sheet_dot = 3 ∷ (1 ∷ ascii "a" ++ (1 ∷ ascii "b" ++ (3 ∷ ascii "a.b" ++ (2 ∷ 1 ∷ 0 ∷ 0 ∷ 1 ∷ 1 ∷ 0 ∷ 1 ∷ 3 ∷ []))))

-- a label of no bytes: 3
unfoldable pub sheet_bent : List ℕ
sheet_bent = 1 ∷ 0 ∷ []

unfoldable pub texts : List (Writing (Unit {0}))
texts =
    -- no step; one step, though a label of the sheet that it doesn't use is not writable
    pattern_writing sheet_dot (0 ∷ [])
    ∷ pattern_writing sheet_dot (1 ∷ 0 ∷ 0 ∷ 1 ∷ [])
    -- one child follows at once; several stand in brackets, also the last
    ∷ pattern_writing sheet_dot (2 ∷ 0 ∷ 1 ∷ 0 ∷ 1 ∷ 0 ∷ 2 ∷ [])
    ∷ pattern_writing sheet_dot (2 ∷ 0 ∷ 0 ∷ 1 ∷ 0 ∷ 1 ∷ 2 ∷ [])
    ∷ pattern_writing sheet_dot (6 ∷ 0 ∷ 0 ∷ 1 ∷ 1 ∷ 0 ∷ 2 ∷ 2 ∷ 1 ∷ 0 ∷ 1 ∷ 1 ∷ 2 ∷ 4 ∷ 0 ∷ 1 ∷ 4 ∷ 0 ∷ 2 ∷ [])
    -- the label of a step below is not writable; the whole pattern is judged before that: bytes remain, a label number outside its
    -- range; and the sheet is judged before the pattern
    ∷ pattern_writing sheet_dot (2 ∷ 0 ∷ 0 ∷ 1 ∷ 1 ∷ 0 ∷ 3 ∷ [])
    ∷ pattern_writing sheet_dot (1 ∷ 0 ∷ 0 ∷ 3 ∷ 0 ∷ [])
    ∷ pattern_writing sheet_dot (2 ∷ 0 ∷ 0 ∷ 3 ∷ 1 ∷ 0 ∷ 4 ∷ [])
    ∷ pattern_writing sheet_bent []
    -- subscriptions are numbered from 0: two of them, of which the second is not writable; none; and the sheet is judged before
    ∷ subscription_writing sheet_dot 0
    ∷ subscription_writing sheet_dot 1
    ∷ subscription_writing sheet_dot 2
    ∷ subscription_writing sheet_bent 2
    ∷ []

-- room is judged last: one byte too few, just enough and more for /a, and none for //a.b
unfoldable pub text_answers : List (Result ℕ Refusal)
text_answers =
    output_answer (with_room (room 1) (subscription_writing sheet_dot 0))
    ∷ output_answer (with_room (room 2) (subscription_writing sheet_dot 0))
    ∷ output_answer (with_room (room 3) (subscription_writing sheet_dot 0))
    ∷ output_answer (with_room [] (subscription_writing sheet_dot 1))
    ∷ []

-- as found on a refusal, and behind the written part
unfoldable pub text_outputs : List (List ℕ)
text_outputs =
    after (room 1) (with_room (room 1) (subscription_writing sheet_dot 0))
    ∷ after (room 3) (with_room (room 3) (subscription_writing sheet_dot 0))
    ∷ []

-- what is given in each case
unfoldable pub text_givens : List (Given ℕ)
text_givens = output_given (Err NotWritable) ∷ output_given (Ok 2) ∷ []

pub record AllWritten : Type 0 where
  pub texts : List (Writing (Unit {0}))
  pub answers : List (Result ℕ Refusal)
  pub outputs : List (List ℕ)
  pub givens : List (Given ℕ)

unfoldable pub answers_written : AllWritten
answers_written = record { texts = texts; answers = text_answers; outputs = text_outputs; givens = text_givens }

unfoldable pub expected_written : AllWritten
expected_written = record {
  texts =
      writes tt (ascii ".")
      ∷ writes tt (ascii "/a")
      ∷ writes tt (ascii "//*/b")
      ∷ writes tt (ascii "[/a][//b]")
      ∷ writes tt (ascii "/a[/b//*][//b[/a][/b]]")
      ∷ refuses NotWritable
      ∷ refuses BytesRemain
      ∷ refuses LabelOutside
      ∷ refuses LabelLength
      ∷ writes tt (ascii "/a")
      ∷ refuses NotWritable
      ∷ refuses NotThere
      ∷ refuses LabelLength
      ∷ [];
  answers = Err NoRoom ∷ Ok 2 ∷ Ok 2 ∷ Err NotWritable ∷ [];
  outputs = room 1 ∷ (47 ∷ 97 ∷ 7 ∷ []) ∷ [];
  givens = record { refused = true; number = 15; values = 0 } ∷ record { refused = false; number = 0; values = 2 } ∷ [];
}

pub written_apart : answers_written ≡ expected_written
unfolding
    answers_written expected_written sheet_dot sheet_bent room texts text_answers text_outputs text_givens ascii pick some every go_on ◌>>=◌ ◌>>◌ give repeat unless byte bytes end axis_of children_in forest steps_from steps_of same_label label labels up_from path_after may_hang near_root a_step steps pattern sheet label_at axis_text label_text several in_brackets branches_text pattern_text barred unbarred writable judged is_subscription subscription with_room after step_writable text_writing only_pattern pattern_writing subscription_writing output_answer refusal gives output_given
written_apart = refl

-- ---- lines at the limits

-- n bytes a
unfoldable pub many_a : ℕ → List ℕ
many_a n = replicate n 97

unfoldable pub long : List (Result ℕ LineRefusal)
long =
    -- a line of 1,024 bytes, though its label is unknown; a line of one more
    line_answer [] sheet_ab (47 ∷ many_a 1023)
    ∷ line_answer [] sheet_ab (47 ∷ many_a 1024)
    -- longer ones with a fault: before place 1,024; behind it; and one that ends early
    ∷ line_answer [] sheet_ab (47 ∷ (many_a 1022 ++ (42 ∷ many_a 1)))
    ∷ line_answer [] sheet_ab (47 ∷ (many_a 1024 ++ (42 ∷ [])))
    ∷ line_answer [] sheet_ab (91 ∷ many_a 1024)
    ∷ []

pub long_apart :
    long ≡ (Err (record { why = LabelUnknown; place = 0 }) ∷ Err (record { why = NotALine; place = 1024 }) ∷ Err (record { why = NotALine; place = 1023 }) ∷ Err (record { why = NotALine; place = 1024 }) ∷ Err (record { why = NotALine; place = 1024 }) ∷ [])
unfolding
    long many_a sheet_ab ascii pick some every barred start moved step_found longer_name longer_last longer opens_here name_or slash_or branch_or after_name next_in next followed all_closed may_end read_from read_any within read_line go_on ◌>>=◌ ◌>>◌ give repeat unless byte bytes end same_label label labels sheet judged with_room is_known known_drawn drawn_writing in_order line_judged line_then drawn_answer line_answer
long_apart = refl

-- n times //a, each below the one before
unfoldable pub down_a : ℕ → List ℕ
down_a zero = []
down_a (suc n) = ascii "//a" ++ down_a n

unfoldable pub many : List (Result ℕ LineRefusal)
many =
    -- sixteen steps
    line_answer (room 49) sheet_ab (down_a 16)
    -- seventeen: 14 before 5, also for a label after the sixteenth step; 5 before 9
    ∷ line_answer [] sheet_ab (down_a 16 ++ ascii "//c")
    ∷ line_answer [] sheet_ab (ascii "[a][b]" ++ down_a 15)
    -- a label of 61 bytes
    ∷ line_answer [] sheet_ab (47 ∷ many_a 61)
    ∷ []

pub many-apart : many ≡ (Ok 49 ∷ Err (record { why = LabelUnknown; place = 0 }) ∷ Err (record { why = CountOutside; place = 0 }) ∷ Err (record { why = LabelUnknown; place = 0 }) ∷ [])
unfolding
    many many_a down_a room sheet_ab ascii pick some every keep flat_map barred start moved step_found longer_name longer_last longer opens_here closes name_or slash_or branch_or after_name next_in next followed all_closed may_end read_from read_any within read_line go_on ◌>>=◌ ◌>>◌ give repeat unless byte bytes end axis_number same_label label labels near_root is_near_root sheet step_bytes steps_bytes judged with_room is_known known_drawn numbered_step drawn_writing in_order line_judged line_then drawn_answer line_answer
many-apart = refl
