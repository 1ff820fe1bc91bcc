-- The numbers given back, each with when it is given, and the limits.
use Rattle.std.specs.Prelude.{ℕ, Result, Ok, Err}
use Rattle.meaning.specs.declared.Refusal.{Refusal}
use Rattle.meaning.specs.declared.Refusal.TheVariants.{EndsEarly, BytesRemain, LabelLength, LabelTwice, CountOutside, ParentRule, AxisUnknown, LabelOutside}
use Rattle.meaning.specs.declared.Refusal.TheVariants.{SecondNear, NoRoom, NotThere, NotFair, NotALine, LabelUnknown, NotWritable}

-- done
abbrev pub done : ℕ
done = 0

abbrev pub refusal_number : Refusal → ℕ
-- the bytes end where one more is needed
refusal_number EndsEarly = 1
-- bytes remain after the last section
refusal_number BytesRemain = 2
-- a label's length is 0 or over 60
refusal_number LabelLength = 3
-- a label has occurred before
refusal_number LabelTwice = 4
-- a count is outside its limits (S + D included)
refusal_number CountOutside = 5
-- a parent breaks its rule
refusal_number ParentRule = 6
-- an axis is neither 0 nor 1
refusal_number AxisUnknown = 7
-- a label number is outside its range
refusal_number LabelOutside = 8
-- a second near step with parent 0
refusal_number SecondNear = 9
-- the lent output is shorter than what is to be written
refusal_number NoRoom = 10
-- a subscription or label number asked for doesn't exist
refusal_number NotThere = 11
-- the table is well formed but not fair
refusal_number NotFair = 12
-- the line is not in the notation or has more than 1,024 bytes; comes with the place
refusal_number NotALine = 13
-- a label of the line is not the sheet's
refusal_number LabelUnknown = 14
-- a label can't stand in a line
refusal_number NotWritable = 15

-- of a check: 0 where it passed
abbrev pub number_given : Result (Unit {0}) Refusal → ℕ
number_given (Ok u) = done
number_given (Err why) = refusal_number why

-- ---- the limits
abbrev pub longest_label : ℕ
longest_label = 60

-- of a sheet and a document together
abbrev pub most_labels : ℕ
most_labels = 255

abbrev pub most_patterns : ℕ
most_patterns = 64

abbrev pub most_steps : ℕ
most_steps = 16

abbrev pub most_nodes : ℕ
most_nodes = 1024

abbrev pub most_entries : ℕ
most_entries = 64

abbrev pub longest_line : ℕ
longest_line = 1024
