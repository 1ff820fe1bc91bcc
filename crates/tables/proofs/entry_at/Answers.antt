-- `tables::entry_at` meets its contract: past the end no pattern has steps, wherever it is looked for.
use Rattle.std.proofs.Common.{ℕ, ◌+◌, ◌≡◌, ◌≤◌, ◌<◌, ◌⊎◌, true, false, ltb, List, length, ap, inl, inr, arith}
use borrow.Author.Tests.{ltb-true, ltb-false}
use Rattle.base.specs.Bools.{true_or_false}
use Rattle.subscriptions.specs.Taken.{pattern_at}
use Rattle.subscriptions.specs.TakenRead.{pattern-past}
use Rattle.tables.specs.TableSection.{entry_taken}
use Rattle.tables.proofs.entry_at.Goals as goal

-- the place behind the members, or both are past the end
behind : (t : List ℕ) (x y : ℕ) → (x < length t → y ≡ x + 8) → (length t ≤ x → length t ≤ y) → pattern_at t y ≡ pattern_at t (x + 8)
behind t x y inside past = go (true_or_false (ltb x (length t)))
  where
    go : (ltb x (length t) ≡ true) ⊎ (ltb x (length t) ≡ false) → pattern_at t y ≡ pattern_at t (x + 8)
    go (inl h) = ap (pattern_at t) (inside (ltb-true x (length t) h))
    go (inr h) = let out : length t ≤ x = ltb-false x (length t) h in pattern-past t y (x + 8) (past out) (omega arith)

pub returns : goal.returns
unfolding entry_taken
returns c =
    let same = behind c.args.t.now c.args.x c.saturating_add.result (λ h. omega arith) (λ h. omega arith) in
    rw (c.members_at.ensures, c.pattern_at.ensures, same)
