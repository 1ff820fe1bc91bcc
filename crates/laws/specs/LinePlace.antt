-- Where the reader stops is the first fault: each byte that it takes some line could have there, and the one at which it stops none.
use Rattle.std.specs.Prelude.{ℕ, zero, suc, ◌+◌, ◌<◌, ◌≡◌, refl, ◌⊎◌, Bool, true, false, List, [], ◌∷◌, ◌++◌, length, take, drop}
use Prim.Native.Char.{code}
use Rattle.std.proofs.Common.{sym, ap, ◌∙◌, subst, inl, inr, ⊎_elim, arith, le_of_suc-le-suc, take-append-drop}
use Rattle.base.specs.Choice.{pick}
use Rattle.base.specs.Lists.{some}
use Rattle.meaning.specs.PatternText.{ascii}
use Rattle.meaning.specs.Notation.{barred, Sketch, Line, Drawn, Begins, FirstFault}
use Rattle.meaning.specs.Lines.{Mode, at_start, at_dot, at_slash, at_slashes, opened, opened_dot, opened_dot_slash, ended, in_label, Stand, start}
use Rattle.meaning.specs.Lines.{Next, stuck, to, moved, step_found, closes, name_or, slash_or, branch_or, after_name, next_in, next}
use Rattle.meaning.specs.Lines.{LineRead, off_at, draws, followed, all_closed, may_end, read_from, read_any}
use Rattle.laws.specs.LineComplete.{line_read}
use Rattle.laws.specs.LineSound.{fault-no_steps, read_line_lem}

-- ---- at most one first fault

-- the front of a line begins one
pub line_front : {s : List ℕ} {t : Sketch} → Line s t → (k : ℕ) → Begins (take k s)
line_front {s} {t} l k = record { rest = drop k s; drawing = t; line = rw take-append-drop l }

-- so a line has none
line_no_fault : {s : List ℕ} {i : ℕ} {t : Sketch} → Line s t → FirstFault s i → ⊥
line_no_fault {i = i} {t = t} l f = ⊎_elim (λ h. h.1 (line_front l (suc i))) (λ h. h.1 t l) f.here

-- of two, none lies before the other
not_sooner : {s : List ℕ} {i j : ℕ} → FirstFault s i → FirstFault s j → i < j → ⊥
not_sooner {i = i} f g l = ⊎_elim (λ h. h.1 (g.before i l)) (λ h. ⊎_elim (λ k. omega arith) (λ k. omega arith) g.here) f.here

-- so they are at the same place
one_fault : {s : List ℕ} {i j : ℕ} → FirstFault s i → FirstFault s j → i ≡ j
one_fault f g =
    let not-before = not_sooner f g in
    let not_after = not_sooner g f in
    omega arith

-- ---- every stand leads to a line's end

-- these bytes are read as steps, from a place and a stand on
abbrev Read : ℕ → Stand → List ℕ → Type 0
Read j c x = (ds : List Drawn) × (read_from j c x ≡ draws ds)

-- as many brackets close as are open
closing : List ℕ → List ℕ
closing [] = []
closing (h ∷ hs) = code "]" ∷ closing hs

-- and then the line ends
closing-read : (j h : ℕ) (hs : List ℕ) (ds : List Drawn) → Read j (record { mode = ended; here = h; opens = hs; found = ds }) (closing hs)
unfolding closing read_from followed next next_in after_name branch_or slash_or closes pick may_end all_closed
closing-read j h [] ds = (_, refl)
closing-read j h (k ∷ hs) ds = closing-read (suc j) k hs ds

-- from every stand some bytes are read as steps
completed : (j : ℕ) (m : Mode) (h : ℕ) (hs : List ℕ) (ds : List Drawn)
    → (rest : List ℕ) × Read j (record { mode = m; here = h; opens = hs; found = ds }) rest
unfolding read_from followed next next_in name_or after_name branch_or slash_or moved step_found pick may_end barred some ascii
completed j at_start h hs ds = (ascii ".", (_, refl))
completed j at_dot h hs ds = ([], (_, refl))
completed j at_slash h hs ds = (ascii "*" ++ closing hs, closing-read (suc j) _ hs _)
completed j at_slashes h hs ds = (ascii "*" ++ closing hs, closing-read (suc j) _ hs _)
completed j opened h hs ds = (ascii "*" ++ closing hs, closing-read (suc j) _ hs _)
completed j opened_dot h hs ds = (ascii "//*" ++ closing hs, closing-read (suc (suc (suc j))) _ hs _)
completed j opened_dot_slash h hs ds = (ascii "/*" ++ closing hs, closing-read (suc (suc j)) _ hs _)
completed j ended h hs ds = (closing hs, closing-read j h hs ds)
completed j in_label h hs ds = (ascii "/*" ++ closing hs, closing-read (suc (suc j)) _ hs _)

-- ---- the place at which reading stops

-- the first fault, whatever bytes are good
record Stops (Good : List ℕ → Type 0) (s : List ℕ) (i : ℕ) : Type 0 where
  before : (k : ℕ) → k < i → (rest : List ℕ) × Good (take (suc k) s ++ rest)
  here : ((i < length s) × ((rest : List ℕ) → Good (take (suc i) s ++ rest) → ⊥)) ⊎ ((i ≡ length s) × (Good s → ⊥))

-- with one byte before them the first fault is one later
one_later : {Good Later : List ℕ → Type 0} {s : List ℕ} {i : ℕ} (b : ℕ)
    → ((x : List ℕ) → Later x → Good (b ∷ x)) → ((x : List ℕ) → Good (b ∷ x) → Later x)
    → (rest : List ℕ) × Later rest → Stops Later s i → Stops Good (b ∷ s) (suc i)
one_later {Good} {s = s} {i = i} b put off way f =
    record {
      before = go;
      here = ⊎_elim (λ h. inl (omega arith, λ rest g. h.1 rest (off _ g))) (λ h. inr (omega arith, λ g. h.1 (off s g))) f.here;
    }
  where
    go : (k : ℕ) → k < suc i → (rest : List ℕ) × Good (take (suc k) (b ∷ s) ++ rest)
    go zero l = (way.0, put _ way.1)
    go (suc k) l = let r = f.before k (le_of_suc-le-suc l) in (r.0, put _ r.1)

-- where reading stops from a stand on is the first fault of the bytes from there on
stops : (j : ℕ) (c : Stand) (s : List ℕ) (i : ℕ) → read_from j c s ≡ off_at i → (k : ℕ) × (i ≡ j + k) × Stops (Read j c) s k
unfolding read_from followed pick
stops j c [] i h =
    (0, go (may_end c.mode c.opens) h, record { before = λ k l. absurd (omega arith); here = inr (refl, λ r. fault-no_steps (sym h ∙ r.1)) })
  where
    go : (t : Bool) → pick t (draws c.found) (off_at j) ≡ off_at i → i ≡ j + 0
    go true e = absurd (fault-no_steps (sym e))
    go false e = let z : j ≡ i = cc in omega arith
stops j c (b ∷ s) i h = go (next b c) refl h (λ d. stops (suc j) d s i)
  where
    go : (n : Next) → next b c ≡ n → followed n (off_at j) (λ d. read_from (suc j) d s) ≡ off_at i
        → ((d : Stand) → read_from (suc j) d s ≡ off_at i → (k : ℕ) × (i ≡ suc j + k) × Stops (Read (suc j) d) s k)
        → (k : ℕ) × (i ≡ j + k) × Stops (Read j c) (b ∷ s) k
    go stuck e q later =
        let z : j ≡ i = cc in
        (0, omega arith, record { before = λ k l. absurd (omega arith); here = inl (omega arith, λ rest r. fault-no_steps (rw e at r).1) })
    go (to d) e q later =
        let r = later d q in
        (suc r.0, omega arith, one_later b (λ x g. rw e g) (λ x g. rw e at g) (completed (suc j) d.mode d.here d.opens d.found) r.2)

-- where the reader stops is the first fault
pub fault-place : (s : List ℕ) (i : ℕ) → read_any s ≡ off_at i → FirstFault s i
unfolding read_any
fault-place s i h =
    let r = stops 0 start s i h in
    let f = r.2 in
    let e : r.0 ≡ i = omega arith in
    subst (FirstFault s) e record {
      before = λ k l. go k (f.before k l);
      here = ⊎_elim (λ n. inl (n.0, λ g. n.1 g.rest (_, line_read _ _ g.line))) (λ n. inr (n.0, λ t l. n.1 (_, line_read s t l))) f.here;
    }
  where
    go : (k : ℕ) → (rest : List ℕ) × Read 0 start (take (suc k) s ++ rest) → Begins (take (suc k) s)
    go k r = let t = read_line_lem _ _ r.1.1 in record { rest = r.0; drawing = t.0; line = t.1 }

-- and the first fault is where it stops
pub fault_only : (s : List ℕ) (i : ℕ) → FirstFault s i → read_any s ≡ off_at i
fault_only s i f = go (read_any s) refl
  where
    go : (r : LineRead) → read_any s ≡ r → read_any s ≡ off_at i
    go (off_at j) e = e ∙ ap off_at (one_fault (fault-place s j e) f)
    go (draws ds) e = absurd (line_no_fault (read_line_lem s ds e).1 f)
