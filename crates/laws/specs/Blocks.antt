-- In steps as they are written, the steps below a step stand right after it in one block.
use Rattle.std.specs.Prelude.{ℕ, zero, suc, ◌+◌, ◌≤◌, ◌<◌, ◌≡◌, refl, List, [], ◌∷◌, ◌++◌, length, get_or, drop}
use Rattle.std.proofs.Common.{sym, ap, ◌∙◌, subst, append-nil, arith}
use Rattle.meaning.specs.Forest.{Forest, none, step, size, steps_from, steps_of}
use Rattle.meaning.specs.declared.Step.{Step}
use Rattle.laws.specs.Outside.{Outside, outside_later, afterwards, outside-afterwards, steps-split}

-- nothing follows, or a step whose parent is above w
unfoldable pub Ends : ℕ → List Step → Type 0
Ends w [] = Unit
Ends w (s ∷ ss) = s.parent < w

-- what stands after step w: the steps below it, and then what is outside
pub record Block (w : ℕ) (rest : List Step) : Type 0 where
  pub below : Forest
  pub after : List Step
  pub split : rest ≡ steps_from w (suc w) below ++ after
  pub outside : Outside w (suc w + size below) after
  pub ends : Ends w after

-- every step, the first of them numbered k, has its block
unfoldable pub Blocks : ℕ → List Step → Type 0
Blocks k [] = Unit
Blocks k (s ∷ ss) = Block k ss × Blocks (suc k) ss

-- the block below a step ends where its later siblings, or what follows, begin
ends-afterwards : (p k : ℕ) (kids later : Forest) (after : List Step) → p < k → Ends p after → Ends k (afterwards p k kids later after)
unfolding Ends afterwards steps_from
ends-afterwards p k kids none [] h e = tt
ends-afterwards p k kids none (s ∷ ss) h e = omega arith
ends-afterwards p k kids (step a m ks ls) after h e = h

-- every step of a written forest has its block
blocks_written : (p k : ℕ) (f : Forest) (after : List Step) → p < k → Outside p (k + size f) after → Ends p after → Blocks (k + size f) after
    → Blocks k (steps_from p k f ++ after)
unfolding Blocks steps_from size afterwards
blocks_written p k none after h o e b = subst (λ (n : ℕ). Blocks n after) (omega arith) b
blocks_written p k (step a m kids later) after h o e b =
    let o' = outside_later p k a m kids later after o in
    let b' : Blocks (suc k + size kids + size later) after = subst (λ (n : ℕ). Blocks n after) (omega arith) b in
    let out = outside-afterwards p k kids later after h o' in
    let end = ends-afterwards p k kids later after h e in
    let beside : Blocks (suc k + size kids) (afterwards p k kids later after) = blocks_written p (suc k + size kids) later after (omega arith) o' e b' in
    let inside = blocks_written k (suc k) kids (afterwards p k kids later after) (omega arith) out end beside in
    subst (λ (l : List Step). Blocks k l) (sym (steps-split p k a m kids later after))
    (record { below = kids; after = afterwards p k kids later after; split = refl; outside = out; ends = end }, inside)

-- the block of the step at place j
block_at : (k j : ℕ) (ss : List Step) → j < length ss → Blocks k ss → Block (k + j) (drop (suc j) ss)
unfolding Blocks
block_at k j [] h b = absurd (omega arith)
block_at k zero (s ∷ ss) h b = subst (λ (n : ℕ). Block n ss) (omega arith) b.0
block_at k (suc j) (s ∷ ss) h b = subst (λ (n : ℕ). Block n (drop (suc j) ss)) (omega arith) (block_at (suc k) j ss (omega arith) b.1)

-- after step w, or the root, of the steps of a pattern stand those below it
pub block_of : (w : ℕ) (f : Forest) (ss : List Step) → steps_of f ≡ ss → w ≤ length ss → Block w (drop w ss)
unfolding Blocks steps_of Outside Ends
block_of zero f ss e h = record { below = f; after = []; split = sym e ∙ sym (append-nil (steps_of f)); outside = tt; ends = tt }
block_of (suc j) f ss e h =
    let whole : Blocks 1 (steps_from 0 1 f ++ []) = blocks_written 0 1 f [] (omega arith) tt tt tt in
    subst (λ (n : ℕ). Block n (drop (suc j) ss)) (omega arith)
    (block_at 1 j ss h (subst (λ (l : List Step). Blocks 1 l) (append-nil (steps_of f) ∙ e) whole))

-- where the first step after step w doesn't hang on it, none is below it
pub empty_block : {w : ℕ} {s : Step} {ss : List Step} (b : Block w (s ∷ ss)) → (s.parent ≡ w → ⊥) → b.below ≡ none
unfolding steps_from
empty_block {w} {s} {ss} b e = go b.below b.split
  where
    go : (f : Forest) → (s ∷ ss) ≡ steps_from w (suc w) f ++ b.after → f ≡ none
    go none q = refl
    go (step a m kids later) q = absurd (e (ap (λ (l : List Step). (get_or l 0 s).parent) q))
