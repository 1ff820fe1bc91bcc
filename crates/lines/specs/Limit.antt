-- The limit of 1,024 bytes, as the code puts it on.
use Rattle.std.specs.Prelude.{ℕ, ◌≤◌, ◌<◌, ◌≡◌, refl, List, length, take, Result, Ok, Err}
use Rattle.std.proofs.Math.Path.{ap}
use Rattle.std.proofs.Common.{◌∙◌, ⊎_elim, arith, length-take-le}
use Rattle.meaning.specs.Numbers.{longest_line}
use Rattle.meaning.specs.Lines.{LineRead, off_at, draws, read_any, within, read_line}
use Rattle.laws.specs.LineJudged.{stays_early, stays-short, put-long, cut_line}
use Rattle.laws.specs.LinePlace.{fault-place}
use Rattle.lines.specs.declared.steps.Found.{Found}
use Rattle.lines.specs.Found.{off_line, FoundIs}
use Rattle.lines.specs.Said.{found_off, found-drawn}

-- no fault lies behind the end
place-within : (line : List ℕ) (i : ℕ) → length line ≤ longest_line → read_any line ≡ off_at i → i ≤ longest_line
place-within line i h e = ⊎_elim (λ n. omega (arith, n.0)) (λ n. omega (arith, n.0)) (fault-place line i e).here

-- a line within the limit is read as any
short-line : (line : List ℕ) → length line ≤ longest_line → read_line line ≡ read_any line
unfolding read_line
short-line line h = go (read_any line) refl
  where
    go : (x : LineRead) → read_any line ≡ x → within line x ≡ x
    go (off_at i) e = stays_early line i (place-within line i h e)
    go (draws ds) e = stays-short line ds h

pub within-limit : (ls : List (List ℕ)) (line : List ℕ) (f : Result Found ℕ) → length line ≤ longest_line → FoundIs ls (read_any line) f → FoundIs ls (read_line line) f
within-limit ls line f h found = rw (short-line line h) found

-- ---- of a longer one the first 1,024 bytes decide
module _ (ls : List (List ℕ)) (line : List ℕ) (long : longest_line < length line) where
  -- they are a line: the longer one is refused behind them
  pub longer-sound : (f : Found) → FoundIs ls (read_any (take longest_line line)) (Ok f) → (r : Result Found ℕ) → r ≡ off_line longest_line
      → FoundIs ls (read_line line) r
  unfolding off_line
  longer-sound f found r h =
      let d = found-drawn ls (read_any (take longest_line line)) f found in
      rw (cut_line line long ∙ ap (within line) d.1 ∙ put-long line d.0 long) (rw h refl)

  -- they are none: it is refused where they are
  pub longer_off : (place : ℕ) → FoundIs ls (read_any (take longest_line line)) (Err place) → FoundIs ls (read_line line) (Err place)
  longer_off place found =
      let fault = found_off ls (read_any (take longest_line line)) place found in
      let front : length (take longest_line line) ≤ longest_line = omega (arith, length-take-le longest_line line (omega arith)) in
      rw (cut_line line long ∙ ap (within line) fault ∙ stays_early line place (place-within _ place front fault)) refl
