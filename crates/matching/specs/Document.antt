-- The notes of a document whose nodes stand in bytes: how they are filled, and what they say at the end.
use Prim.Native.Nat.{ℕ, zero, suc, ◌+◌, ◌*◌, ◌≤◌, ◌<◌}
use Rattle.std.specs.Prelude.{◌≡◌, List, get_or, replicate}
use Rattle.std.proofs.Math.Path.{sym}
use Rattle.std.proofs.Common.{◌∙◌, arith}
use Rattle.std.proofs.Math.ListN.{length}
use Rattle.meaning.specs.Sections.{Node}
use Rattle.meaning.specs.Satisfying.{parents_of, satisfies}
use Rattle.shapes.specs.declared.Pattern.{Pattern}
use Rattle.shapes.specs.Shapes.{nodes_at, steps_in, pattern_of, WellFormed}
use Rattle.shapes.specs.Steps.{few_steps, steps_rise}
use Rattle.laws.specs.Rising.{Rising}
use Rattle.laws.specs.HasAll.{has_all}
use Rattle.laws.specs.ReadNumbers.{Bytes}
use Rattle.matching.specs.declared.masks.Masks.{Masks}
use Rattle.matching.specs.NodeNotes.{noted}
use Rattle.matching.specs.Masks.{MasksOf}
use Rattle.matching.specs.NodeTurns.{turned}
use Rattle.matching.specs.GivenBits.{kids_in_word}
use Rattle.matching.specs.Gave.{turn-gives}
use Rattle.matching.specs.Filled.{Filled}
use Rattle.matching.specs.Filling.{fill_starts, fill-goes_on, fill-ends}
use Rattle.shapes.specs.Nodes.{parent_from, length-nodes_at, parent_at, label_at, parent_lower}

module _ (m : Masks) (bs : List ℕ) (at : ℕ) where
  -- the words after the turns of the first u nodes that stand from a place on, the last of them first
  unfoldable pub filled : ℕ → List ℕ → List ℕ
  filled zero words = words
  filled (suc k) words = filled k (turned m words (suc k) (parent_from bs (at + 3 * k)) (get_or bs (at + 3 * k + 2) 0))

  -- the top's word at the end, of as many words as are enough
  pub record TopWord (n word : ℕ) : Type 0 where
    pub size : ℕ
    pub enough : n < size
    pub at_top : word ≡ get_or (filled n (replicate size 0)) 0 0

  -- one node more
  pub filled-goes_on : {u up label : ℕ} {words' whole : List ℕ} (words : List ℕ) (k : ℕ) → u ≡ suc k
      → up ≡ parent_from bs (at + 3 * k) → label ≡ get_or bs (at + 3 * k + 2) 0 → words' ≡ turned m words u up label
      → filled u words ≡ whole → filled k words' ≡ whole
  unfolding filled
  filled-goes_on words k e a b t f = rw (t, e, a, b) (rw e at f)

module _ (bs : List ℕ) (at n : ℕ) (p : Pattern) (sound : WellFormed p) (rising : Rising (parents_of (nodes_at bs at n))) (bytes : Bytes bs)
    (m : Masks) (are : MasksOf (steps_in p) m) where
  abbrev nodes : List Node
  nodes = nodes_at bs at n

  -- each turn adds what one node gives
  fills : (u : ℕ) (words : List ℕ) → u ≤ n → Filled nodes (steps_in p) u words → Filled nodes (steps_in p) 0 (filled m bs at u words)
  unfolding filled
  fills zero words h f = f
  fills (suc k) words h f =
      let long = length-nodes_at bs at n in
      let up = parent_lower bs at n rising k (omega arith) in
      let room : parent_from bs (at + 3 * k) < length words = omega (arith, f.full) in
      let gave = turn-gives (steps_in p) m (few_steps p sound) (steps_rise p sound) are words (suc k) _ _ room (bytes (at + 3 * k + 2)) in
      let parent = sym (parent_at bs at n k (omega arith)) in
      let label = sym (label_at bs at n k (omega arith)) in
      fills k _ (omega arith) (fill-goes_on nodes (steps_in p) rising words _ k _ _ (omega arith) f parent label gave)

  -- the top's word has all root steps exactly if the document satisfies the pattern
  pub top_word_tells : {word : ℕ} → TopWord m bs at n word → has_all word (get_or m.children 0 0) ≡ satisfies nodes (pattern_of p)
  unfolding pattern_of noted
  top_word_tells t =
      let long = length-nodes_at bs at n in
      let start = rw long at (fill_starts nodes (steps_in p) rising t.size (omega (arith, t.enough))) in
      let end = fills n (replicate t.size 0) (omega arith) start in
      let roots = kids_in_word (steps_in p) m (few_steps p sound) are (steps_rise p sound) _ 0 (omega arith) in
      rw t.at_top (roots ∙ fill-ends nodes (steps_in p) rising _ end)
