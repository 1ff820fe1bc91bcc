-- The limit of 1,024 bytes put on lines: the reader accepts exactly those within it, with the steps that they draw; the place that it
-- gives for all other bytes is where they are refused; and of a longer line the first 1,024 bytes decide.
use Rattle.std.specs.Prelude.{ℕ, zero, suc, ◌+◌, ◌≤◌, ◌<◌, ◌≡◌, Bool, List, [], ◌∷◌, length, take}
use Rattle.std.proofs.Math.Path.{refl, ap}
use Rattle.std.proofs.Common.{sym, ◌∙◌, subst, inl, inr, ⊎_elim, arith}
use Rattle.std.proofs.Math.Bool.{true, false}
use borrow.Author.Tests.{leb-true, leb-false, le-leb, lt-leb}
use Rattle.std.proofs.Math.Dec.{leb}
use Rattle.base.specs.Choice.{pick}
use Rattle.meaning.specs.Numbers.{longest_line}
use Rattle.meaning.specs.Notation.{Sketch, Line, Drawn, steps_drawn, Begins, FirstFault, RefusedAt}
use Rattle.meaning.specs.Lines.{Stand, start, Next, stuck, to, next, LineRead, off_at, draws, followed, may_end, read_from, read_any, within, read_line}
use Rattle.laws.specs.LineComplete.{line_read}
use Rattle.laws.specs.LineSound.{fault-no_steps, read_line_lem}
use Rattle.laws.specs.LinePlace.{line_front, fault-place, fault_only}

-- ---- what the limit does

module _ (s : List ℕ) where
  -- a place up to it stays
  pub stays_early : (i : ℕ) → i ≤ longest_line → within s (off_at i) ≡ off_at i
  unfolding within pick
  stays_early i h = rw (le-leb i longest_line h)

  -- a place from it on is put there
  put_late : (i : ℕ) → longest_line ≤ i → within s (off_at i) ≡ off_at longest_line
  unfolding within pick
  put_late i h = go (leb i longest_line) refl
    where
      go : (b : Bool) → leb i longest_line ≡ b → off_at (pick b i longest_line) ≡ off_at longest_line
      go true e = ap off_at (omega (arith, leb-true i longest_line e))
      go false e = refl

  -- the steps of a short line stay
  pub stays-short : (ds : List Drawn) → length s ≤ longest_line → within s (draws ds) ≡ draws ds
  unfolding within pick
  stays-short ds h = rw (le-leb (length s) longest_line h)

  -- a longer one is off there
  pub put-long : (ds : List Drawn) → longest_line < length s → within s (draws ds) ≡ off_at longest_line
  unfolding within pick
  put-long ds h = rw (lt-leb (length s) longest_line h)

-- ---- lines are accepted

-- a line of at most 1,024 bytes is read, with the steps that it draws
pub line_accepted : (s : List ℕ) (t : Sketch) → Line s t → length s ≤ longest_line → read_line s ≡ draws (steps_drawn t)
unfolding read_line
line_accepted s t l h = ap (within s) (line_read s t l) ∙ stays-short s (steps_drawn t) h

-- and nothing else
pub accepted_line : (s : List ℕ) (ds : List Drawn) → read_line s ≡ draws ds → (length s ≤ longest_line) × (t : Sketch) × Line s t × (ds ≡ steps_drawn t)
unfolding read_line within pick
accepted_line s ds h = go (read_any s) refl h
  where
    short : (es : List Drawn) (b : Bool) → pick b (draws es) (off_at longest_line) ≡ draws ds → (b ≡ true) × (es ≡ ds)
    short es true e = (refl, cc)
    short es false e = absurd (fault-no_steps e)

    go : (r : LineRead) → read_any s ≡ r → within s r ≡ draws ds → (length s ≤ longest_line) × (t : Sketch) × Line s t × (ds ≡ steps_drawn t)
    go (off_at i) k e = absurd (fault-no_steps e)
    go (draws es) k e =
        let r = short es (leb (length s) longest_line) e in
        let l = read_line_lem s es k in
        (leb-true (length s) longest_line r.0, l.0, l.1, cc (line_read s l.0 l.1))

-- ---- all else is refused at its place

-- the place that is given is where the bytes are refused
pub refused-place : (s : List ℕ) (i : ℕ) → read_line s ≡ off_at i → RefusedAt s i
unfolding read_line
refused-place s i h = go (read_any s) refl h
  where
    fault : (j : ℕ) → FirstFault s j → (b : Bool) → leb j longest_line ≡ b → within s (off_at j) ≡ off_at i → RefusedAt s i
    fault j f true b e =
        let early = leb-true j longest_line b in
        let same : off_at j ≡ off_at i = sym (stays_early s j early) ∙ e in
        let here : j ≡ i = cc in
        inl (omega arith, subst (FirstFault s) here f)
    fault j f false b e =
        let late = leb-false j longest_line b in
        let same : off_at longest_line ≡ off_at i = sym (put_late s j (omega arith)) ∙ e in
        let here : longest_line ≡ i = cc in
        inr (sym here, ⊎_elim (λ n. omega arith) (λ n. omega arith) f.here, λ k l. f.before k (omega arith))

    long : (ds : List Drawn) (t : Sketch) → Line s t → (b : Bool) → leb (length s) longest_line ≡ b → within s (draws ds) ≡ off_at i → RefusedAt s i
    long ds t l true b e = absurd (fault-no_steps (sym e ∙ stays-short s ds (leb-true (length s) longest_line b)))
    long ds t l false b e =
        let more = leb-false (length s) longest_line b in
        let same : off_at longest_line ≡ off_at i = sym (put-long s ds more) ∙ e in
        let here : longest_line ≡ i = cc in
        inr (sym here, more, λ k _. line_front l (suc k))

    go : (r : LineRead) → read_any s ≡ r → within s r ≡ off_at i → RefusedAt s i
    go (off_at j) k e = fault j (fault-place s j k) (leb j longest_line) refl e
    go (draws ds) k e = let l = read_line_lem s ds k in long ds l.0 l.1 (leb (length s) longest_line) refl e

-- and where bytes are refused is the place that is given, so there is only one
pub place-refused : (s : List ℕ) (i : ℕ) → RefusedAt s i → read_line s ≡ off_at i
unfolding read_line
place-refused s i h = ⊎_elim (λ f. ap (within s) (fault_only s i f.1) ∙ stays_early s i f.0) (λ f. rw f.0 (go f.1 f.2 (read_any s) refl)) h
  where
    go : longest_line < length s → ((k : ℕ) → k < longest_line → Begins (take (suc k) s)) → (r : LineRead) → read_any s ≡ r
        → within s (read_any s) ≡ off_at longest_line
    go long before (off_at j) k =
        let f = fault-place s j k in
        let not-early : j < longest_line → ⊥ = λ l. ⊎_elim (λ n. n.1 (before j l)) (λ n. omega arith) f.here in
        ap (within s) k ∙ put_late s j (omega arith)
    go long before (draws ds) k = ap (within s) k ∙ put-long s ds long

-- ---- of a longer line the first 1,024 bytes decide

-- from the limit on, whatever is read is put there
put-behind : (w : List ℕ) → longest_line < length w → (i : ℕ) (c : Stand) (s : List ℕ) → longest_line ≤ i → within w (read_from i c s) ≡ off_at longest_line
unfolding read_from followed pick
put-behind w long i c [] h = go (may_end c.mode c.opens)
  where
    go : (b : Bool) → within w (pick b (draws c.found) (off_at i)) ≡ off_at longest_line
    go true = put-long w c.found long
    go false = put_late w i h
put-behind w long i c (b ∷ s) h = go (next b c) (λ d. put-behind w long (suc i) d s (omega arith))
  where
    go : (n : Next) → ((d : Stand) → within w (read_from (suc i) d s) ≡ off_at longest_line)
        → within w (followed n (off_at i) (λ d. read_from (suc i) d s)) ≡ off_at longest_line
    go stuck later = put_late w i h
    go (to d) later = later d

-- so nothing that stands there counts
cut_from : (w : List ℕ) → longest_line < length w → (n i : ℕ) (c : Stand) (s : List ℕ) → longest_line ≤ i + n
    → within w (read_from i c (take n s)) ≡ within w (read_from i c s)
unfolding read_from followed
cut_from w long zero i c s h = put-behind w long i c [] (omega arith) ∙ sym (put-behind w long i c s (omega arith))
cut_from w long (suc n) i c [] h = refl
cut_from w long (suc n) i c (b ∷ s) h = go (next b c) (λ d. cut_from w long n (suc i) d s (omega arith))
  where
    go : (m : Next) → ((d : Stand) → within w (read_from (suc i) d (take n s)) ≡ within w (read_from (suc i) d s))
        → within w (followed m (off_at i) (λ d. read_from (suc i) d (take n s))) ≡ within w (followed m (off_at i) (λ d. read_from (suc i) d s))
    go stuck later = refl
    go (to d) later = later d

-- a longer line is read as its first 1,024 bytes, but that it is off there at the latest
pub cut_line : (s : List ℕ) → longest_line < length s → read_line s ≡ within s (read_any (take longest_line s))
unfolding read_line read_any
cut_line s h = sym (cut_from s h longest_line 0 start s (omega arith))
