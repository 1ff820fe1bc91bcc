-- The output after writing: what is written stands first, where it fits, and behind it the output is as found.
use Rattle.std.specs.Prelude.{ℕ, ◌≤◌, ◌<◌, ◌≡◌, refl, Bool, List, ◌++◌, length}
use Rattle.std.proofs.Common.{sym, ◌∙◌, arith, zero-add}
use Rattle.std.proofs.Math.Path.{ap}
use Rattle.std.proofs.Math.Bool.{true, false}
use borrow.Author.Tests.{le-leb, lt-leb}
use Rattle.std.proofs.Math.Dec.{leb}
use Rattle.std.proofs.Math.ListN.{drop}
use Rattle.std.proofs.lemmas.List.Edits.{sets}
use Rattle.std.proofs.Math.Seq.{sets-eq}
use Rattle.base.specs.Choice.{pick, pick_true, pick_false}
use Rattle.meaning.specs.Calls.{writes, refuses, with_room, after}
use Rattle.meaning.specs.declared.Refusal.TheVariants.{NoRoom}

-- the bytes, and the output as found behind them; where they do not fit, the output as found
unfoldable pub written_over : List ℕ → List ℕ → List ℕ
written_over out bs = pick (leb (length bs) (length out)) (bs ++ drop (length bs) out) out

-- so the output is after a call that writes them, whatever value comes with them
pub after_writing : {A : Type 0} (out bs : List ℕ) (x : A) → after out (with_room out (writes x bs)) ≡ written_over out bs
unfolding written_over after with_room pick
after_writing {A} out bs x = go (leb (length bs) (length out))
  where
    go : (room : Bool) → after out (pick room (writes x bs) (refuses NoRoom)) ≡ pick room (bs ++ drop (length bs) out) out
    go true = refl
    go false = refl

module _ (out bs : List ℕ) (n : ℕ) (long : n ≡ length bs) where
  -- where there is room, what is stored from the start on
  pub written : n ≤ length out → (now : List ℕ) → now ≡ sets out 0 bs → (true ≡ leb (length bs) (length out)) × (now ≡ written_over out bs)
  unfolding written_over
  written h now stored =
      let room : leb (length bs) (length out) ≡ true = le-leb (length bs) (length out) (omega arith) in
      (sym room, pick_true now _ out _ room (stored ∙ sets-eq bs out 0 (omega arith) ∙ ap (λ (k : ℕ). bs ++ drop k out) (zero-add (length bs))))

  -- where there is none, all is as found
  pub not_written : length out < n → (false ≡ leb (length bs) (length out)) × (out ≡ written_over out bs)
  unfolding written_over
  not_written h =
      let short : leb (length bs) (length out) ≡ false = lt-leb (length bs) (length out) (omega arith) in
      (sym short, pick_false out _ out _ short refl)
