-- Every line of the notation is read, with the steps that it draws.
use Rattle.std.specs.Prelude.{ℕ, suc, ◌+◌, ◌≡◌, refl, true, false, List, [], ◌∷◌, ◌++◌, length}
use Prim.Native.Char.{code}
use Rattle.std.proofs.Common.{ap, ◌∙◌, subst, append_assoc, append-nil, arith, add-one, add-suc, suc-add, length-append}
use Rattle.std.proofs.lemmas.Bool.{not-true}
use Rattle.base.specs.Bools.{and_first, and_second}
use Rattle.base.specs.Choice.{pick}
use Rattle.base.specs.Lists.{some, every}
use Rattle.meaning.specs.Forest.{Axis, near, far}
use Rattle.meaning.specs.PatternText.{ascii, axis_text}
use Rattle.meaning.specs.Notation.{barred, unbarred, writable, Name, called, Named, starred, labelled, Sketch, blank, draw}
use Rattle.meaning.specs.Notation.{Branches, bare, last, more, whole, near_short, far_short, along, leaf, over}
use Rattle.meaning.specs.Notation.{Line, dot, branches, Drawn, drawn_size, drawn_from, steps_drawn}
use Rattle.meaning.specs.Lines.{Mode, at_slash, at_slashes, ended, in_label}
use Rattle.meaning.specs.Lines.{Stand, start, Next, to, moved, step_found, longer_name, longer_last, longer, opens_here, closes}
use Rattle.meaning.specs.Lines.{name_or, slash_or, branch_or, after_name, next_in, next, draws, followed, all_closed, may_end, read_from, read_any}

-- ---- runs

-- the bytes lead from one stand to another
data Run : Stand → List ℕ → Stand → Type 0 where
  still : {c : Stand} → Run c [] c
  byte : {b : ℕ} {s : List ℕ} {c d e : Stand} → next b c ≡ to d → Run d s e → Run c (b ∷ s) e

-- one run after another
joined : {s r : List ℕ} {c d e : Stand} → Run c s d → Run d r e → Run c (s ++ r) e
joined still q = q
joined (byte h p) q = byte h (joined p q)

-- bytes that lead to where a line may end are read as the steps found there
run-read : {s : List ℕ} {c d : Stand} (i : ℕ) → Run c s d → may_end d.mode d.opens ≡ true → read_from i c s ≡ draws d.found
unfolding read_from pick followed
run-read i still h = rw h
run-read i (byte e p) h = rw e (run-read (suc i) p h)

-- ---- labels

-- the last step's label alone gets longer
longer_last_lem : (b : ℕ) (xs : List Drawn) (d : Drawn) → longer_last b (xs ++ (d ∷ [])) ≡ xs ++ longer_last b (d ∷ [])
unfolding longer_last
longer_last_lem b [] d = refl
longer_last_lem b (x ∷ []) d = refl
longer_last_lem b (x ∷ y ∷ xs) d = ap (x ∷◌) (longer_last_lem b (y ∷ xs) d)

-- of a writable label the first byte is not barred, and the others are writable
writable_both : (b : ℕ) (l : List ℕ) → writable (b ∷ l) ≡ true → (barred b ≡ false) × (writable l ≡ true)
unfolding writable every unbarred
writable_both b l h = (not-true (barred b) (and_first (unbarred b) (every unbarred l) h), and_second (unbarred b) (every unbarred l) h)

-- a label's first byte
first_byte : (a : Axis) (b : ℕ) (c : Stand) (o : Next) → barred b ≡ false → name_or a b c o ≡ to (step_found in_label a (called (b ∷ [])) c)
unfolding name_or pick
first_byte a b c o h = rw h

-- one byte more of a label
pub longer-step : (a : Axis) (c : Stand) (w : List ℕ) (b : ℕ) → longer b (step_found in_label a (called w) c) ≡ step_found in_label a (called (w ++ (b ∷ []))) c
unfolding step_found longer longer_last longer_name
longer-step a c w b =
    ap (λ ds. record { mode = in_label; here = suc (length c.found); opens = c.opens; found = ds })
    (longer_last_lem b c.found (record { parent = c.here; axis = a; name = called w }))

-- further bytes of a label
label-run : (a : Axis) (c : Stand) (w l : List ℕ) → writable l ≡ true → Run (step_found in_label a (called w) c) l (step_found in_label a (called (w ++ l)) c)
unfolding next next_in pick step_found
label-run a c w [] h = rw append-nil still
label-run a c w (b ∷ l) h =
    let one : next b (step_found in_label a (called w) c) ≡ to (step_found in_label a (called (w ++ (b ∷ []))) c) =
    rw (writable_both b l h).0 (ap to (longer-step a c w b)) in
    byte one (rw append_assoc at (label-run a c (w ++ (b ∷ [])) l (writable_both b l h).1))

-- ---- what may follow in a mode

-- a name, after this axis
abbrev Naming : Axis → Mode → Type 0
Naming a m = (b : ℕ) (c : Stand) → (o : Next) × (next_in m b c ≡ name_or a b c o)

-- a branch without brackets
abbrev Slashing : Mode → Type 0
Slashing m = (c : Stand) → next_in m (code "/") c ≡ to (moved at_slash c)

-- a branch, in brackets or without
record Branching (m : Mode) : Type 0 where
  slash : Slashing m
  bracket : (c : Stand) → next_in m (code "[") c ≡ to (opens_here c)

-- a branch, a closing bracket, or the end of the line, where all brackets are closed
record Past (m : Mode) : Type 0 where
  branching : Branching m
  closing : (c : Stand) → next_in m (code "]") c ≡ closes c.opens c
  ending : may_end m [] ≡ true

-- all these may follow * or a closed bracket
past-ended : Past ended
unfolding next_in after_name branch_or slash_or pick may_end all_closed
past-ended = record { branching = record { slash = λ c. refl; bracket = λ c. refl }; closing = λ c. refl; ending = refl }

-- and a label
past-label : Past in_label
unfolding next_in after_name branch_or slash_or pick may_end all_closed barred some ascii
past-label = record { branching = record { slash = λ c. refl; bracket = λ c. refl }; closing = λ c. refl; ending = refl }

-- ---- names

-- a name is read as one step more
named-run : {s : List ℕ} {n : Name} → Named s n → (a : Axis) (c : Stand) → Naming a c.mode → (m : Mode) × Past m × Run c s (step_found m a n c)
unfolding next name_or pick barred some ascii
named-run starred a c f = (ended, past-ended, byte (f (code "*") c).1 still)
named-run (labelled b l h) a c f =
    let ok = writable_both b l h in
    let first = f b c in
    (in_label, past-label, byte (first.1 ∙ first_byte a b c first.0 ok.0) (label-run a c (b ∷ []) l ok.1))

-- ---- the steps that a run adds

-- there are as many steps as the sketch has
length-drawn : (p k : ℕ) (t : Sketch) → length (drawn_from p k t) ≡ drawn_size t
unfolding drawn_from drawn_size
length-drawn p k blank = refl
length-drawn p k (draw a n kids later) =
    ap suc
    (length-append (drawn_from k (suc k) kids) (drawn_from p (suc k + drawn_size kids) later)
    ∙ omega (arith, length-drawn k (suc k) kids, length-drawn p (suc k + drawn_size kids) later))

-- a stand with the steps of a sketch more, which hang on its step
abbrev grown : Mode → ℕ → Sketch → Stand → Stand
grown m h t c =
    record { mode = m; here = h; opens = c.opens; found = c.found ++ drawn_from c.here (suc (length c.found)) t }

-- a step and then its own branches
with_kids : (l : Mode) (a : Axis) (n : Name) (kids : Sketch) (c : Stand) (m : Mode) (h : ℕ)
    → grown m h kids (step_found l a n c) ≡ grown m h (draw a n kids blank) c
unfolding step_found drawn_from
with_kids l a n kids c m h = rw (length-append, add-one, append_assoc, append-nil)

-- a branch in brackets and then the branches after it
with_later : (a : Axis) (n : Name) (kids later : Sketch) (c : Stand) (m : Mode) (h : ℕ)
    → grown m h later (grown ended c.here (draw a n kids blank) c) ≡ grown m h (draw a n kids later) c
unfolding drawn_from
with_later a n kids later c m h =
    let k = suc (length c.found) in
    rw (append-nil, length-append, length-drawn k (suc k) kids, append_assoc, suc-add, suc-add, add-suc)

-- the bytes add the steps of a sketch, and end in such a mode that a branch, a closing bracket or the end may follow
record Adds (c : Stand) (s : List ℕ) (t : Sketch) : Type 0 where
  mode : Mode
  here : ℕ
  past : Past mode
  run : Run c s (grown mode here t c)

-- bytes that add steps, after others
onward : {s r : List ℕ} {c d : Stand} {t u : Sketch} → Run c s d → ((m : Mode) (h : ℕ) → grown m h t d ≡ grown m h u c) → Adds d r t → Adds c (s ++ r) u
onward {s} {r} {c} p same q =
    record { mode = q.mode; here = q.here; past = q.past; run = subst (Run c (s ++ r)) (same q.mode q.here) (joined p q.run) }

-- ---- the families of the grammar

-- what is shown of each family, from any stand in whose mode it may follow: the steps that it adds
abbrev RestRuns : List ℕ → Name → Sketch → Type 0
RestRuns s n kids = (a : Axis) (c : Stand) → Naming a c.mode → Adds c s (draw a n kids blank)

abbrev BranchRuns : List ℕ → Axis → Name → Sketch → Type 0
BranchRuns s a n kids = (c : Stand) → Slashing c.mode → Adds c s (draw a n kids blank)

abbrev BracketedRuns : List ℕ → Axis → Name → Sketch → Type 0
BracketedRuns s a n kids = (c : Stand) → Branching c.mode → Run c s (grown ended c.here (draw a n kids blank) c)

abbrev BranchesRuns : List ℕ → Sketch → Type 0
BranchesRuns s t = (c : Stand) → Branching c.mode → Adds c s t

-- a name alone
leaf_runs : {s : List ℕ} {n : Name} → Named s n → RestRuns s n blank
unfolding step_found drawn_from
leaf_runs name a c f =
    let r = named-run name a c f in
    record { mode = r.0; here = suc (length c.found); past = r.1; run = r.2 }

-- a name and its branches
over_runs : {s r : List ℕ} {n : Name} {kids : Sketch} → Named s n → BranchesRuns r kids → RestRuns (s ++ r) n kids
unfolding step_found
over_runs {n = n} {kids = kids} name k a c f =
    let r = named-run name a c f in
    onward r.2 (with_kids r.0 a n kids c) (k (step_found r.0 a n c) r.1.branching)

-- an axis and what stands behind it
along_runs : {s : List ℕ} {n : Name} {kids : Sketch} (a : Axis) → RestRuns s n kids → BranchRuns (axis_text a ++ s) a n kids
unfolding axis_text ascii next next_in moved name_or slash_or pick barred some
along_runs near k c f = onward (byte (f c) still) (λ m h. refl) (k near (moved at_slash c) (λ b d. (_, refl)))
along_runs far k c f = onward (byte (f c) (byte refl still)) (λ m h. refl) (k far (moved at_slashes c) (λ b d. (_, refl)))

-- what stands in brackets: then branches hang on the step on which they hung before
in_brackets_lem : {s : List ℕ} {t : Sketch} (c : Stand) → Branching c.mode → Adds (opens_here c) s t
    → Run c (ascii "[" ++ (s ++ ascii "]")) (grown ended c.here t c)
unfolding next ascii opens_here closes
in_brackets_lem c f q = byte (f.bracket c) (joined q.run (byte (q.past.closing _) still))

-- branches add their steps, wherever they may begin
branches_runs : {s : List ℕ} {t : Sketch} → Branches s t → BranchesRuns s t
unfolding ascii next next_in moved opens_here name_or slash_or pick barred some
branches_runs t = elim t as
    (λ s t _. BranchesRuns s t) (λ s a n kids _. BracketedRuns s a n kids) (λ s a n kids _. BranchRuns s a n kids) (λ s n kids _. RestRuns s n kids) [
      | bare (b → k) ↦ λ c f. k c f.slash
      | last (b → k) ↦ λ c f. record { mode = ended; here = c.here; past = past-ended; run = k c f }
      | more {a = a} {n = n} {kids = kids} {later = later} (b → k) (r → l) ↦ λ c f.
          onward (k c f) (with_later a n kids later c) (l (grown ended c.here (draw a n kids blank) c) past-ended.branching)
      | whole (b → k) ↦ λ c f. in_brackets_lem c f (k (opens_here c) (λ d. refl))
      | near_short (r → k) ↦ λ c f. in_brackets_lem c f (k near (opens_here c) (λ b d. (_, refl)))
      | far_short (r → k) ↦ λ c f.
          in_brackets_lem c f (onward (byte refl (byte refl (byte refl still))) (λ m h. refl) (k far (moved at_slashes (opens_here c)) (λ b d. (_, refl))))
      | along a (r → k) ↦ along_runs a k
      | leaf name ↦ leaf_runs name
      | over name (r → k) ↦ over_runs name k
    ]

-- a line of any length is read, with the steps that it draws
pub line_read : (s : List ℕ) (t : Sketch) → Line s t → read_any s ≡ draws (steps_drawn t)
unfolding read_any steps_drawn start ascii read_from pick followed next next_in branch_or slash_or moved may_end drawn_from
line_read s t dot = refl
line_read s t (branches r) =
    let q = branches_runs r start (record { slash = λ c. refl; bracket = λ c. refl }) in
    run-read 0 q.run q.past.ending
