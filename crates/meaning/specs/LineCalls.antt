-- The calls for lines of the notation: a line read with a sheet's labels, a pattern and a subscription written as a line.
use Rattle.std.specs.Prelude.{ℕ, Result, Ok, Err, suc, Bool, true, List, [], ◌∷◌, map, leb, length}
use Rattle.base.specs.Choice.{pick}
use Rattle.base.specs.Lists.{some, every, keep}
use Rattle.meaning.specs.Numbers.{most_steps}
use Rattle.meaning.specs.Reader.{Reader, ◌>>=◌, ◌>>◌, give, end}
use Rattle.meaning.specs.Forest.{axis_number, Forest, steps_of}
use Rattle.meaning.specs.Sections.{same_label, is_near_root, pattern, sheet}
use Rattle.meaning.specs.LabelBytes.{label_at}
use Rattle.meaning.specs.Written.{steps_bytes}
use Rattle.meaning.specs.PatternText.{pattern_text}
use Rattle.meaning.specs.Notation.{writable, Name, any, called, Drawn}
use Rattle.meaning.specs.Lines.{LineRead, off_at, draws, read_line}
use Rattle.meaning.specs.Calls.{judged, is_subscription, subscription, Writing, refuses, writes, with_room, after}
use Rattle.meaning.specs.declared.Step.{Step}
use Rattle.meaning.specs.declared.LineRefusal.{LineRefusal}
use Rattle.meaning.specs.declared.Refusal.{Refusal}
use Rattle.meaning.specs.declared.Refusal.TheVariants.{CountOutside, SecondNear, NotThere, NotALine, LabelUnknown, NotWritable}

-- ---- what is drawn, with a sheet's labels

-- the number of a label, where the labels are numbered from k on; 0 where it is none of them
unfoldable pub number_from : ℕ → List (List ℕ) → List ℕ → ℕ
number_from k [] l = 0
number_from k (x ∷ ls) l = let later = number_from (suc k) ls l in pick (same_label l x) k later

unfoldable pub name_number : List (List ℕ) → Name → ℕ
name_number ls any = 0
name_number ls (called l) = number_from 1 ls l

-- any, or a label of the sheet
unfoldable pub is_known : List (List ℕ) → Name → Bool
is_known ls any = true
is_known ls (called l) = some (same_label l) ls

unfoldable pub known_drawn : List (List ℕ) → Drawn → Bool
known_drawn ls d = is_known ls d.name

unfoldable pub numbered_step : List (List ℕ) → Drawn → Step
numbered_step ls d = record { parent = d.parent; axis = axis_number d.axis; label = name_number ls d.name }

-- ---- a line read

-- bytes are written where all labels are known, also those after the sixteenth step; there are few steps; there is at most one near
-- step with parent 0; judged in this order
unfoldable pub in_order : Bool → Bool → Bool → List ℕ → Writing (Unit {0})
in_order known few lone bytes =
    pick known
    (pick few
    (pick lone (writes tt bytes) (refuses SecondNear))
    (refuses CountOutside))
    (refuses LabelUnknown)

unfoldable pub drawn_writing : List (List ℕ) → List Drawn → Writing (Unit {0})
drawn_writing ls ds =
    let ss : List Step = map (numbered_step ls) ds in
    in_order (every (known_drawn ls) ds) (leb (length ss) most_steps) (leb (length (keep is_near_root ss)) 1) (steps_bytes ss)

module _ {B : Type 0} where
  -- the place of the first fault, or what follows from the steps
  unfoldable pub line_judged : LineRead → (ℕ → B) → (List Drawn → B) → B
  line_judged (off_at i) off next = off i
  line_judged (draws ds) off next = next ds

  -- sheet and line are judged in this order: a refusal, with the place where the line is off and otherwise 0, or what follows
  unfoldable pub line_then : (Refusal → ℕ → B) → (Writing (Unit {0}) → B) → List ℕ → List ℕ → B
  line_then refuse next s line =
      judged (sheet s) (λ why. refuse why 0) (λ sh.
      line_judged (read_line line) (refuse NotALine) (λ ds.
      next (drawn_writing sh.labels ds)))

unfoldable pub drawn_answer : Writing (Unit {0}) → Result ℕ LineRefusal
drawn_answer (refuses why) = Err (record { why = why; place = 0 })
drawn_answer (writes u bs) = Ok (length bs)

-- room is judged last
unfoldable pub line_answer : List ℕ → List ℕ → List ℕ → Result ℕ LineRefusal
line_answer out = line_then (λ why place. Err (record { why = why; place = place })) (λ w. drawn_answer (with_room out w))

-- the output afterwards
unfoldable pub line_output : List ℕ → List ℕ → List ℕ → List ℕ
line_output out = line_then (λ why i. out) (λ w. after out (with_room out w))

-- ---- a pattern written as a line

-- a step's label is any, which has no bytes, or can stand in a line
unfoldable pub step_writable : List (List ℕ) → Step → Bool
step_writable ls s = writable (label_at ls s.label)

unfoldable pub text_writing : List (List ℕ) → Forest → Writing (Unit {0})
text_writing ls f = pick (every (step_writable ls) (steps_of f)) (writes tt (pattern_text ls f)) (refuses NotWritable)

-- the bytes of a pattern, and no more
unfoldable pub only_pattern : ℕ → Reader Forest
only_pattern known = do
  f ← pattern known
  end
  give f

unfoldable pub pattern_writing : List ℕ → List ℕ → Writing (Unit {0})
pattern_writing s p =
    judged (sheet s) refuses (λ sh.
    judged (only_pattern (length sh.labels) p) refuses (λ f.
    text_writing sh.labels f))

unfoldable pub subscription_writing : List ℕ → ℕ → Writing (Unit {0})
subscription_writing s i =
    judged (sheet s) refuses (λ sh.
    pick (is_subscription sh i) (text_writing sh.labels (subscription sh i)) (refuses NotThere))

unfoldable pub output_answer : Writing (Unit {0}) → Result ℕ Refusal
output_answer (refuses why) = Err why
output_answer (writes u bs) = Ok (length bs)
