-- What a call that writes answers, and how it leaves the output: where something is written, where there is no room, where it refuses.
use Rattle.std.specs.Prelude.{ℕ, ◌≤◌, ◌<◌, ◌≡◌, refl, Bool, true, false, List, leb, length, Ok, Err}
use Rattle.std.proofs.Common.{sym, ◌∙◌, arith}
use Rattle.std.proofs.Math.Path.{ap}
use Rattle.std.proofs.lemmas.List.Edits.{sets}
use Rattle.base.specs.Choice.{pick}
use Rattle.meaning.specs.Calls.{Writing, refuses, writes, with_room, after}
use Rattle.meaning.specs.LineCalls.{output_answer}
use Rattle.writing.specs.OutputAfter.{written_over, after_writing, written, not_written}
use Rattle.meaning.specs.declared.Refusal.TheVariants.{NoRoom}
use Rattle.meaning.specs.declared.Refusal.{Refusal}

-- an answer and an output that a call which writes w gives
abbrev pub Gives : {A R : Type 0} → (Writing A → R) → List ℕ → Writing A → R → List ℕ → Type 0
Gives answered out w r now = (r ≡ answered (with_room out w)) × (now ≡ after out (with_room out w))

module _ {A R : Type 0} (answered : Writing A → R) (out : List ℕ) where
  -- a refusal leaves the output as found
  pub gives-refusal : (n : Refusal) (w : Writing A) → refuses n ≡ w → Gives answered out w (answered (refuses n)) out
  unfolding with_room after
  gives-refusal n w e = (ap (λ (v : Writing A). answered (with_room out v)) e, ap (λ (v : Writing A). after out (with_room out v)) e)

  -- what is written is given by its equation
  pub gives_same : (v w : Writing A) → v ≡ w → (r : R) (now : List ℕ) → Gives answered out v r now → Gives answered out w r now
  gives_same v w e r now g = rw e at g

  module _ (x : A) (bs : List ℕ) (room : Bool) (said : room ≡ leb (length bs) (length out)) (now : List ℕ) (over : now ≡ written_over out bs) where
    -- the output afterwards
    gives_left : now ≡ after out (with_room out (writes x bs))
    gives_left = over ∙ sym (after_writing out bs x)

    -- where there is room the bytes are written
    pub gives-written : room ≡ true → Gives answered out (writes x bs) (answered (writes x bs)) now
    unfolding with_room pick
    gives-written t = (rw (sym said ∙ t), gives_left)

    -- where there is none it is refused
    pub gives-no_room : room ≡ false → Gives answered out (writes x bs) (answered (refuses NoRoom)) now
    unfolding with_room pick
    gives-no_room f = (rw (sym said ∙ f), gives_left)

-- ---- bytes alone, of which their number is told

module _ (out bs : List ℕ) where
  -- where there is room, by what is stored from the start on
  pub gives-stored : (n : ℕ) → n ≡ length bs → n ≤ length out → (now : List ℕ) → now ≡ sets out 0 bs → Gives output_answer out (writes tt bs) (Ok n) now
  unfolding output_answer
  gives-stored n long h now stored =
      let w = written out bs n long h now stored in
      rw long (gives-written output_answer out tt bs true w.0 now w.1 refl)

  -- where there is none
  pub gives-not_stored : (n : ℕ) → n ≡ length bs → length out < n → Gives output_answer out (writes tt bs) (Err NoRoom) out
  unfolding output_answer
  gives-not_stored n long h = let w = not_written out bs n long h in gives-no_room output_answer out tt bs false w.0 out w.1 refl

  module _ (now : List ℕ) where
    -- a number that is told is theirs, and there was room
    pub was_written : (n : ℕ) → Gives output_answer out (writes tt bs) (Ok n) now
        → (true ≡ leb (length bs) (length out)) × (now ≡ written_over out bs) × (n ≡ length bs)
    unfolding output_answer with_room pick
    was_written n g = let t = go (leb (length bs) (length out)) g.0 in (t.0, g.1 ∙ after_writing out bs tt, t.1)
      where
        go : (room : Bool) → Ok n ≡ output_answer (pick room (writes tt bs) (refuses NoRoom)) → (true ≡ room) × (n ≡ length bs)
        go true e = (refl, cc)
        go false e = let z : ◌≡◌ {A = ℕ} 0 1 = cc in absurd (omega arith)

    -- a refusal is that there was none
    pub had_no_room : (why : Refusal) → Gives output_answer out (writes tt bs) (Err why) now
        → (false ≡ leb (length bs) (length out)) × (now ≡ written_over out bs) × (why ≡ NoRoom)
    unfolding output_answer with_room pick
    had_no_room why g = let t = go (leb (length bs) (length out)) g.0 in (t.0, g.1 ∙ after_writing out bs tt, t.1)
      where
        go : (room : Bool) → Err why ≡ output_answer (pick room (writes tt bs) (refuses NoRoom)) → (false ≡ room) × (why ≡ NoRoom)
        go true e = let z : ◌≡◌ {A = ℕ} 0 1 = cc in absurd (omega arith)
        go false e = (refl, cc)
