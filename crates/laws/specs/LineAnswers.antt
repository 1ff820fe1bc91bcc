-- What the call for a line answers, for any lent output: what it writes of a line, and with which number and place it refuses.
use Rattle.std.specs.Prelude.{ℕ, ◌≤◌, ◌<◌, ◌≡◌, Bool, true, false, List, ◌++◌, map, leb, length, drop, Ok, Err, Result}
use Rattle.std.proofs.Math.Path.{ap}
use Rattle.std.proofs.Common.{◌∙◌, arith}
use borrow.Author.Tests.{le-leb, lt-leb}
use Rattle.base.specs.Choice.{pick}
use Rattle.base.specs.Lists.{every, keep}
use Rattle.meaning.specs.Numbers.{most_steps, longest_line, refusal_number}
use Rattle.meaning.specs.Reader.{read, refused}
use Rattle.meaning.specs.Sections.{is_near_root, Sheet, sheet}
use Rattle.meaning.specs.Written.{steps_bytes}
use Rattle.meaning.specs.Notation.{Sketch, Line, Drawn, steps_drawn, RefusedAt}
use Rattle.meaning.specs.Lines.{LineRead, off_at, draws, read_line}
use Rattle.meaning.specs.Calls.{judged, Writing, refuses, writes, with_room, after}
use Rattle.meaning.specs.LineCalls.{known_drawn, numbered_step, in_order, drawn_writing, line_judged, line_then, drawn_answer, line_answer, line_output}
use Rattle.meaning.specs.Given.{refusal, lined_given}
use Rattle.meaning.specs.declared.Step.{Step}
use Rattle.laws.specs.LineJudged.{line_accepted, refused-place, place-refused}
use Rattle.meaning.specs.declared.Refusal.TheVariants.{CountOutside, SecondNear, NoRoom, NotALine, LabelUnknown}
use Rattle.meaning.specs.declared.Refusal.{Refusal}
use Rattle.meaning.specs.declared.LineRefusal.{LineRefusal}

-- these bytes are written of a line, as many as the answer says, and the output is as found behind them; where there is no room for
-- them, 10, and it is as found
pub record LineWrites (s line bs : List ℕ) : Type 0 where
  pub answer : (out : List ℕ) → length bs ≤ length out → line_answer out s line ≡ Ok (length bs)
  pub output : (out : List ℕ) → length bs ≤ length out → line_output out s line ≡ bs ++ drop (length bs) out
  pub no_room_lem : (out : List ℕ) → length out < length bs → line_answer out s line ≡ Err (record { why = NoRoom; place = 0 })
  pub as_found : (out : List ℕ) → length out < length bs → line_output out s line ≡ out

-- a line is refused with this number and place, and the output is as found
pub record LineRefused (s line : List ℕ) (n : Refusal) (place : ℕ) : Type 0 where
  pub answer : (out : List ℕ) → line_answer out s line ≡ Err (record { why = n; place = place })
  pub output : (out : List ℕ) → line_output out s line ≡ out

-- a sheet that is refused gives its number
pub sheet-refused : (s line : List ℕ) (n : Refusal) → sheet s ≡ refused n → LineRefused s line n 0
unfolding line_answer line_output line_then judged
sheet-refused s line n h = record { answer = λ out. rw h; output = λ out. rw h }

-- ---- bytes that are no line

-- what is drawn is never refused by 13
drawn_not_13 : (out : List ℕ) (ls : List (List ℕ)) (ds : List Drawn) (i : ℕ) → drawn_answer (with_room out (drawn_writing ls ds)) ≡ Err (record { why = NotALine; place = i }) → ⊥
unfolding drawn_answer with_room drawn_writing in_order pick lined_given refusal
drawn_not_13 out ls ds i h = go (every (known_drawn ls) ds) (leb (length ss) most_steps) (leb (length (keep is_near_root ss)) 1) h
  where
    ss : List Step
    ss = map (numbered_step ls) ds

    other : (n : Refusal) → (refusal_number n ≡ refusal_number NotALine → ⊥)
        → ◌≡◌ {A = Result ℕ LineRefusal} (Err (record { why = n; place = 0 })) (Err (record { why = NotALine; place = i })) → ⊥
    other n apart e = apart (ap (λ x. (lined_given x).number) e)

    room : (b : Bool) → drawn_answer (pick b (writes tt (steps_bytes ss)) (refuses NoRoom)) ≡ Err (record { why = NotALine; place = i }) → ⊥
    room true e = let z : ◌≡◌ {A = ℕ} 0 1 = cc in omega arith
    room false e = other NoRoom (λ z. omega arith) e

    go : (known few lone : Bool)
        → (let near = pick lone (writes tt (steps_bytes ss)) (refuses SecondNear) in
        drawn_answer (with_room out (pick known (pick few near (refuses CountOutside)) (refuses LabelUnknown))) ≡ Err (record { why = NotALine; place = i }))
        → ⊥
    go true true true e = room (leb (length (steps_bytes ss)) (length out)) e
    go true true false e = other SecondNear (λ z. omega arith) e
    go true false lone e = other CountOutside (λ z. omega arith) e
    go false few lone e = other LabelUnknown (λ z. omega arith) e

module _ (s left : List ℕ) (sh : Sheet) (was_read : sheet s ≡ read sh left) (line : List ℕ) where
  -- they are refused by 13, with their place
  pub other_refused : (i : ℕ) → RefusedAt line i → LineRefused s line NotALine i
  unfolding line_answer line_output line_then judged line_judged
  other_refused i h =
      let off = place-refused line i h in
      record { answer = λ out. rw (was_read, off); output = λ out. rw (was_read, off) }

  -- so the place that comes with 13 is where the bytes are refused
  pub refused_other : (out : List ℕ) (i : ℕ) → line_answer out s line ≡ Err (record { why = NotALine; place = i }) → RefusedAt line i
  unfolding line_answer line_then judged line_judged lined_given refusal
  refused_other out i h = refused-place line i (go (read_line line) (rw was_read at h))
    where
      go : (r : LineRead) → line_judged r (λ at. Err (record { why = NotALine; place = at })) (λ ds. drawn_answer (with_room out (drawn_writing sh.labels ds))) ≡ Err (record { why = NotALine; place = i })
          → r ≡ off_at i
      go (off_at j) e = ap (λ x. off_at (lined_given x).values.place) e
      go (draws ds) e = absurd (drawn_not_13 out sh.labels ds i e)

-- ---- a line

module _ (s left : List ℕ) (sh : Sheet) (was_read : sheet s ≡ read sh left)
    (line : List ℕ) (t : Sketch) (is-line : Line line t) (short : length line ≤ longest_line) where
  -- its steps are judged
  line_then_lem : {B : Type 0} (refuse : Refusal → ℕ → B) (next : Writing (Unit {0}) → B)
      → line_then refuse next s line ≡ next (drawn_writing sh.labels (steps_drawn t))
  unfolding line_then judged line_judged
  line_then_lem refuse next = rw (was_read, line_accepted line t is-line short)

  -- then what is to be written of them is written
  pub line_writes : (bs : List ℕ) → drawn_writing sh.labels (steps_drawn t) ≡ writes tt bs → LineWrites s line bs
  unfolding line_answer line_output with_room drawn_answer after pick
  line_writes bs h =
      record {
        answer = λ out room. line_then_lem _ _ ∙ rw (h, le-leb (length bs) (length out) room);
        output = λ out room. line_then_lem _ _ ∙ rw (h, le-leb (length bs) (length out) room);
        no_room_lem = λ out room. line_then_lem _ _ ∙ rw (h, lt-leb (length bs) (length out) room);
        as_found = λ out room. line_then_lem _ _ ∙ rw (h, lt-leb (length bs) (length out) room);
      }

  -- or they are refused
  pub line_refused : (n : Refusal) → drawn_writing sh.labels (steps_drawn t) ≡ refuses n → LineRefused s line n 0
  unfolding line_answer line_output with_room drawn_answer after
  line_refused n h = record { answer = λ out. line_then_lem _ _ ∙ rw h; output = λ out. line_then_lem _ _ ∙ rw h }
