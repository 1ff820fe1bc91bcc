-- What the call says of a line, by its steps as the code has them, beside a sheet that was judged.
use Rattle.std.specs.Prelude.{ℕ, suc, ◌≤◌, ◌<◌, ◌≡◌, Bool, Result, Ok, Err}
use Rattle.std.proofs.Math.Path.{refl, ap}
use Rattle.std.proofs.Common.{sym, ◌∙◌}
use Rattle.std.proofs.Math.Bool.{true, false}
use mathlib.Core.List.{List, map}
use native.Mathlib.Omega.{arith}
use borrow.Author.Tests.{le-leb, lt-leb, leb-true, leb-false}
use Rattle.std.proofs.Math.Dec.{leb}
use Rattle.std.proofs.Math.ListN.{length}
use Rattle.std.proofs.lemmas.List.{length-map}
use Rattle.base.specs.Choice.{pick, pick_true, pick_false}
use Rattle.base.specs.Lists.{every, keep}
use Rattle.meaning.specs.Numbers.{most_steps}
use Rattle.meaning.specs.Forest.{forest, steps_of}
use Rattle.meaning.specs.Sections.{is_near_root}
use Rattle.meaning.specs.Written.{steps_bytes, pattern_bytes}
use Rattle.meaning.specs.Notation.{Sketch, Drawn, steps_drawn}
use Rattle.meaning.specs.Lines.{LineRead, off_at, draws, read_line}
use Rattle.meaning.specs.Calls.{Writing, refuses, writes, with_room, after}
use Rattle.meaning.specs.LineCalls.{known_drawn, numbered_step, in_order, drawn_writing, line_judged, line_then, drawn_answer, output_answer, line_answer, line_output}
use Rattle.meaning.specs.declared.Step.{Step}
use Rattle.laws.specs.Bridge.{forest-steps_of}
use Rattle.laws.specs.LineForest.{drawn_forest, drawn-steps, drawn-bytes}
use Rattle.laws.specs.LineJudged.{accepted_line}
use Rattle.shapes.specs.Shapes.{steps_in, pattern_of, WellFormed}
use Rattle.shapes.specs.declared.Pattern.{Pattern}
use Rattle.writing.specs.Gives.{Gives, gives_same}
use Rattle.reading.specs.SheetPlaces.{sheet_at}
use Rattle.reading.specs.SheetSection.{sheet_place}
use Rattle.reading.specs.SheetJudged.{sheet-said, sheet-refused}
use Rattle.lines.specs.declared.steps.Found.{Found}
use Rattle.lines.specs.Found.{count_of, StepsAre, FoundIs}
use Rattle.meaning.specs.declared.Refusal.TheVariants.{CountOutside, SecondNear, NotALine, LabelUnknown}
use Rattle.meaning.specs.declared.LineRefusal.{LineRefusal}
use Rattle.meaning.specs.declared.Refusal.{Refusal}

-- where there are too many, the steps don't matter
too_many : (known a b : Bool) (xs ys : List ℕ) → in_order known false a xs ≡ in_order known false b ys
unfolding in_order pick
too_many known a b xs ys = refl

-- of steps by value
unfoldable pub pattern_said : Bool → Pattern → Writing (Unit {0})
pattern_said known p = in_order known (leb p.count most_steps) (leb (length (keep is_near_root (steps_in p))) 1) (pattern_bytes (pattern_of p))

-- of a line, with these labels
abbrev pub LineGives : List (List ℕ) → List ℕ → List ℕ → Result ℕ LineRefusal → List ℕ → Type 0
LineGives ls line out r now =
    (r ≡ line_judged (read_line line) (λ at. Err (record { why = NotALine; place = at })) (λ ds. drawn_answer (with_room out (drawn_writing ls ds))))
    × (now ≡ line_judged (read_line line) (λ i. out) (λ ds. after out (with_room out (drawn_writing ls ds))))

-- ---- what was found

pub found_off : (ls : List (List ℕ)) (x : LineRead) (place : ℕ) → FoundIs ls x (Err place) → x ≡ off_at place
found_off ls (off_at i) place h = ap off_at (sym h)
found_off ls (draws ds) place h = absurd h

pub found-drawn : (ls : List (List ℕ)) (x : LineRead) (f : Found) → FoundIs ls x (Ok f)
    → (ds : List Drawn) × (x ≡ draws ds) × StepsAre ls ds f.known f.pattern
found-drawn ls (off_at i) f h = absurd h
found-drawn ls (draws ds) f h = (ds, refl, h)

-- ---- the steps that a line draws, by value

module _ {ls : List (List ℕ)} {ds : List Drawn} {known : Bool} {p : Pattern} (are : StepsAre ls ds known p) (t : Sketch) (drawn : ds ≡ steps_drawn t) where
  -- at most 16 are counted: there are at most 16
  few : p.count ≤ most_steps → length ds ≤ most_steps
  unfolding count_of pick
  few h = go (leb (length ds) most_steps) refl are.counted
    where
      go : (b : Bool) → leb (length ds) most_steps ≡ b → p.count ≡ pick b (length ds) (suc most_steps) → length ds ≤ most_steps
      go true e k = omega arith
      go false e k = absurd (omega arith)

  -- more are counted: there are more
  many : most_steps < p.count → most_steps < length ds
  unfolding count_of pick
  many h = go (leb (length ds) most_steps) refl are.counted
    where
      go : (b : Bool) → leb (length ds) most_steps ≡ b → p.count ≡ pick b (length ds) (suc most_steps) → most_steps < length ds
      go true e k = absurd (omega (arith, leb-true (length ds) most_steps e))
      go false e k = leb-false (length ds) most_steps e

  the_steps : p.count ≤ most_steps → steps_in p ≡ steps_of (drawn_forest ls t)
  the_steps h = are.whole (few h) ∙ ap (map (numbered_step ls)) drawn ∙ drawn-steps ls t

  the_pattern : p.count ≤ most_steps → pattern_of p ≡ drawn_forest ls t
  unfolding pattern_of
  the_pattern h = ap forest (the_steps h) ∙ forest-steps_of (drawn_forest ls t)

  -- they are a pattern
  pub drawn_formed : p.count ≤ most_steps → WellFormed p
  drawn_formed h = record { few = h; full = are.full; written = ap steps_of (the_pattern h) ∙ sym (the_steps h) }

  -- what is said of them is what is said of the line
  pub drawn-said : pattern_said known p ≡ drawn_writing ls ds
  unfolding pattern_said drawn_writing in_order
  drawn-said = rw are.all_known (go (leb p.count most_steps) refl)
    where
      ss : List Step
      ss = map (numbered_step ls) ds

      long : length ss ≡ length ds
      long = length-map ds (numbered_step ls)

      said : Bool → List Step → List ℕ → Writing (Unit {0})
      said few us bytes = in_order (every (known_drawn ls) ds) few (leb (length (keep is_near_root us)) 1) bytes

      go : (b : Bool) → leb p.count most_steps ≡ b → said b (steps_in p) (pattern_bytes (pattern_of p)) ≡ said (leb (length ss) most_steps) ss (steps_bytes ss)
      go true e =
          let h : p.count ≤ most_steps = leb-true p.count most_steps e in
          let within : leb (length ss) most_steps ≡ true = le-leb (length ss) most_steps (omega (arith, few h, long)) in
          let bytes : pattern_bytes (pattern_of p) ≡ steps_bytes ss =
          ap pattern_bytes (the_pattern h) ∙ sym (drawn-bytes ls t) ∙ ap (λ (es : List Drawn). steps_bytes (map (numbered_step ls) es)) (sym drawn) in
          λ i. said (sym within i) (are.whole (few h) i) (bytes i)
      go false e =
          let h : most_steps < p.count = leb-false p.count most_steps e in
          let beyond : leb (length ss) most_steps ≡ false = lt-leb (length ss) most_steps (omega (arith, many h, long)) in
          too_many (every (known_drawn ls) ds) _ _ _ _ ∙ (λ i. said (sym beyond i) ss (steps_bytes ss))

-- ---- each refusal, in its order

module _ (known : Bool) (p : Pattern) where
  pub said_unknown : known ≡ false → refuses LabelUnknown ≡ pattern_said known p
  unfolding pattern_said in_order
  said_unknown e = pick_false _ _ _ _ e refl

  pub said-many : known ≡ true → most_steps < p.count → refuses CountOutside ≡ pattern_said known p
  unfolding pattern_said in_order
  said-many e h = pick_true _ _ _ _ e (pick_false _ _ _ _ (lt-leb p.count most_steps h) refl)

  module _ (e : known ≡ true) (h : p.count ≤ most_steps) (n : ℕ) (counted : n ≡ length (keep is_near_root (steps_in p))) where
    pub said-near : 1 < n → refuses SecondNear ≡ pattern_said known p
    unfolding pattern_said in_order
    said-near l = pick_true _ _ _ _ e (pick_true _ _ _ _ (le-leb p.count most_steps h) (pick_false _ _ _ _ (lt-leb _ 1 (rw counted at l)) refl))

    pub said-written : n ≤ 1 → writes tt (pattern_bytes (pattern_of p)) ≡ pattern_said known p
    unfolding pattern_said in_order
    said-written l = pick_true _ _ _ _ e (pick_true _ _ _ _ (le-leb p.count most_steps h) (pick_true _ _ _ _ (le-leb _ 1 (rw counted at l)) refl))

-- ---- a number or a refusal, as a line tells them

module _ (out : List ℕ) (w : Writing (Unit {0})) where
  told_written : (n : ℕ) (now : List ℕ) → Gives output_answer out w (Ok n) now → Gives drawn_answer out w (Ok n) now
  unfolding output_answer drawn_answer
  told_written n now g = (go (with_room out w) g.0, g.1)
    where
      go : (v : Writing (Unit {0})) → Ok n ≡ output_answer v → Ok n ≡ drawn_answer v
      go (refuses why) e = let z : ◌≡◌ {A = ℕ} 0 1 = cc in absurd (omega arith)
      go (writes u bs) e = cc

  told_refused : (why : Refusal) (now : List ℕ) → Gives output_answer out w (Err why) now → Gives drawn_answer out w (Err (record { why = why; place = 0 })) now
  unfolding output_answer drawn_answer
  told_refused why now g = (go (with_room out w) g.0, g.1)
    where
      go : (v : Writing (Unit {0})) → Err why ≡ output_answer v → Err (record { why = why; place = 0 }) ≡ drawn_answer v
      go (refuses given) e = let same : why ≡ given = cc in ap (λ (n : Refusal). Err (record { why = n; place = 0 })) same
      go (writes u bs) e = let z : ◌≡◌ {A = ℕ} 0 1 = cc in absurd (omega arith)

-- ---- the line, beside a sheet that was judged

module _ (ls : List (List ℕ)) (line out : List ℕ) where
  pub line_off : (place : ℕ) → FoundIs ls (read_line line) (Err place) → LineGives ls line out (Err (record { why = NotALine; place = place })) out
  unfolding line_judged
  line_off place found = rw (found_off ls (read_line line) place found) (refl, refl)

  module _ (f : Found) (found : FoundIs ls (read_line line) (Ok f)) where
    pub line_formed : f.pattern.count ≤ most_steps → WellFormed f.pattern
    line_formed h =
        let d = found-drawn ls (read_line line) f found in
        let t = accepted_line line d.0 d.1 in
        drawn_formed d.2 t.1 t.3 h

    pub line-drawn : (r : Result ℕ LineRefusal) (now : List ℕ) → Gives drawn_answer out (pattern_said f.known f.pattern) r now
        → LineGives ls line out r now
    unfolding line_judged
    line-drawn r now g =
        let d = found-drawn ls (read_line line) f found in
        let t = accepted_line line d.0 d.1 in
        rw d.1 (gives_same drawn_answer out _ _ (drawn-said d.2 t.1 t.3) r now g)

    -- a refusal is told with the place 0
    pub line-written : (n : ℕ) (now : List ℕ) → Gives output_answer out (pattern_said f.known f.pattern) (Ok n) now → LineGives ls line out (Ok n) now
    line-written n now g = line-drawn (Ok n) now (told_written out _ n now g)

    pub line-not_written : (why : Refusal) (now : List ℕ) → Gives output_answer out (pattern_said f.known f.pattern) (Err why) now
        → LineGives ls line out (Err (record { why = why; place = 0 })) now
    line-not_written why now g = line-drawn (Err (record { why = why; place = 0 })) now (told_refused out _ why now g)

-- ---- the call, from the place where judging the sheet ended: where the sheet is sound, and where it is refused

module _ (s line out : List ℕ) where
  pub line-said : (y : ℕ) → sheet_place s ≡ Ok y → (r : Result ℕ LineRefusal) (now : List ℕ) → LineGives (sheet_at s).labels line out r now
      → (r ≡ line_answer out s line) × (now ≡ line_output out s line)
  unfolding line_answer line_output line_then
  line-said y h r now g = (g.0 ∙ sheet-said s _ _ y h, g.1 ∙ sheet-said s _ _ y h)

  pub line_refused : (n : Refusal) → sheet_place s ≡ Err n → (Err (record { why = n; place = 0 }) ≡ line_answer out s line) × (out ≡ line_output out s line)
  unfolding line_answer line_output line_then
  line_refused n h = (sheet-refused s _ _ n h, sheet-refused s _ _ n h)
