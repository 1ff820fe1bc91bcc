-- A line of the notation read in one pass, byte by byte: the steps that it draws, or the place of its first fault. `laws` proves
-- that this accepts exactly the lines of `Notation`, with the steps that they draw, and that the place is the first fault's.
use Rattle.std.specs.Prelude.{ℕ, suc, Bool, true, false, List, [], ◌∷◌, ◌++◌, eqb, leb, length}
use Prim.Native.Char.{code}
use Rattle.base.specs.Choice.{pick}
use Rattle.meaning.specs.Numbers.{longest_line}
use Rattle.meaning.specs.Forest.{Axis, near, far}
use Rattle.meaning.specs.Notation.{barred, Name, any, called, Drawn}

-- what has just been read
pub data Mode : Type 0 where
  -- nothing; the dot of a line without steps
  at_start at_dot : Mode
  -- a slash that begins an axis; the axis //, also that of a short form
  at_slash at_slashes : Mode
  -- [ and [. and [./
  opened opened_dot opened_dot_slash : Mode
  -- * or ]; a label, to which more bytes may belong
  ended in_label : Mode

-- how far a line has been read: what has just been read, the step that a branch would hang on, the steps that the branches of the
-- open brackets hang on, the innermost first, and the steps found, the last of which may still be getting its label
pub record Stand : Type 0 where
  pub mode : Mode
  pub here : ℕ
  pub opens : List ℕ
  pub found : List Drawn

unfoldable pub start : Stand
start = record { mode = at_start; here = 0; opens = []; found = [] }

-- ---- one byte more

-- no line goes on so; or it goes on
pub data Next : Type 0 where
  stuck : Next
  to : Stand → Next

unfoldable pub moved : Mode → Stand → Stand
moved m c = record { mode = m; here = c.here; opens = c.opens; found = c.found }

-- a step is found, on which branches hang from now on
unfoldable pub step_found : Mode → Axis → Name → Stand → Stand
step_found m a n c =
    record {
      mode = m;
      here = suc (length c.found);
      opens = c.opens;
      found = c.found ++ (record { parent = c.here; axis = a; name = n } ∷ []);
    }

-- the last step's label gets one byte more
unfoldable pub longer_name : ℕ → Name → Name
longer_name b any = any
longer_name b (called l) = called (l ++ (b ∷ []))

unfoldable pub longer_last : ℕ → List Drawn → List Drawn
longer_last b [] = []
longer_last b (d ∷ []) = record { parent = d.parent; axis = d.axis; name = longer_name b d.name } ∷ []
longer_last b (d ∷ e ∷ ds) = d ∷ longer_last b (e ∷ ds)

unfoldable pub longer : ℕ → Stand → Stand
longer b c = record { mode = in_label; here = c.here; opens = c.opens; found = longer_last b c.found }

-- a bracket opens
unfoldable pub opens_here : Stand → Stand
opens_here c = record { mode = opened; here = c.here; opens = c.here ∷ c.opens; found = c.found }

-- the innermost bracket closes: the next branch hangs on the step that the one in it hangs on
unfoldable pub closes : List ℕ → Stand → Next
closes [] c = stuck
closes (h ∷ hs) c = to (record { mode = ended; here = h; opens = hs; found = c.found })

-- * or a label's first byte, or otherwise
unfoldable pub name_or : Axis → ℕ → Stand → Next → Next
name_or a b c otherwise = pick (barred b) (pick (eqb b (code "*")) (to (step_found ended a any c)) otherwise) (to (step_found in_label a (called (b ∷ [])) c))

-- a slash, or otherwise
unfoldable pub slash_or : Mode → ℕ → Stand → Next → Next
slash_or m b c otherwise = pick (eqb b (code "/")) (to (moved m c)) otherwise

-- a branch begins, in brackets or without, or otherwise
unfoldable pub branch_or : ℕ → Stand → Next → Next
branch_or b c otherwise = slash_or at_slash b c (pick (eqb b (code "[")) (to (opens_here c)) otherwise)

-- what may follow a name, or a closed bracket
unfoldable pub after_name : ℕ → Stand → Next
after_name b c = branch_or b c (pick (eqb b (code "]")) (closes c.opens c) stuck)

unfoldable pub next_in : Mode → ℕ → Stand → Next
next_in at_start b c = branch_or b c (pick (eqb b (code ".")) (to (moved at_dot c)) stuck)
next_in at_dot b c = stuck
next_in at_slash b c = name_or near b c (slash_or at_slashes b c stuck)
next_in at_slashes b c = name_or far b c stuck
next_in opened b c = name_or near b c (slash_or at_slash b c (pick (eqb b (code ".")) (to (moved opened_dot c)) stuck))
next_in opened_dot b c = slash_or opened_dot_slash b c stuck
next_in opened_dot_slash b c = slash_or at_slashes b c stuck
next_in ended b c = after_name b c
next_in in_label b c = pick (barred b) (after_name b c) (to (longer b c))

unfoldable pub next : ℕ → Stand → Next
next b c = next_in c.mode b c

-- ---- all bytes

-- the place of the first fault, or the steps that are drawn
pub data LineRead : Type 0 where
  off_at : ℕ → LineRead
  draws : List Drawn → LineRead

unfoldable pub followed : Next → LineRead → (Stand → LineRead) → LineRead
followed stuck fault further = fault
followed (to c) fault further = further c

unfoldable pub all_closed : List ℕ → Bool
all_closed [] = true
all_closed (h ∷ hs) = false

-- a line may end after its dot, and after a name or a bracket where all brackets are closed
unfoldable pub may_end : Mode → List ℕ → Bool
may_end at_start hs = false
may_end at_dot hs = true
may_end at_slash hs = false
may_end at_slashes hs = false
may_end opened hs = false
may_end opened_dot hs = false
may_end opened_dot_slash hs = false
may_end ended hs = all_closed hs
may_end in_label hs = all_closed hs

-- the bytes from place i on
unfoldable pub read_from : ℕ → Stand → List ℕ → LineRead
read_from i c [] = pick (may_end c.mode c.opens) (draws c.found) (off_at i)
read_from i c (b ∷ bs) = followed (next b c) (off_at i) (λ d. read_from (suc i) d bs)

-- a line of any length
unfoldable pub read_any : List ℕ → LineRead
read_any line = read_from 0 start line

-- a line has at most 1,024 bytes, and no place is beyond: there a longer one is off at the latest
unfoldable pub within : List ℕ → LineRead → LineRead
within line (off_at i) = off_at (pick (leb i longest_line) i longest_line)
within line (draws ds) = pick (leb (length line) longest_line) (draws ds) (off_at longest_line)

unfoldable pub read_line : List ℕ → LineRead
read_line line = within line (read_any line)
