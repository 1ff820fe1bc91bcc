-- The notes are filled from the last node to the first; at the end the root steps' notes say whether the document satisfies
-- the pattern.
use Prim.Native.Nat.{ℕ, suc, ◌-◌, ◌≤◌, ◌<◌}
use Rattle.std.specs.Prelude.{◌≡◌, Bool, true, false, ◌&&◌, eqb, get_or, replicate}
use Rattle.std.proofs.Math.Path.{refl, sym, ap}
use Rattle.std.proofs.Common.{◌∙◌, add-zero, add-one, length-drop, get_or-drop, drop-drop}
use Rattle.std.proofs.Math.Bool.{or_comm}
use mathlib.Core.List.{List, [], ◌∷◌}
use native.Mathlib.Omega.{arith}
use Rattle.std.proofs.Math.ListN.{length, drop}
use Rattle.std.proofs.lemmas.List.{length-replicate}
use Rattle.base.specs.Choice.{pick}
use Rattle.base.specs.Lists.{some, numbers_from}
use Rattle.meaning.specs.Forest.{Forest, step, axis_of, children_in, forest, parent_in, is_child}
use Rattle.meaning.specs.Sections.{Node}
use Rattle.meaning.specs.Satisfying.{parents_of, label_in, fits_below, hold_below, satisfies}
use Rattle.meaning.specs.Covering.{step_at}
use Rattle.meaning.specs.declared.Step.{Step}
use Rattle.laws.specs.Rising.{Rising}
use Rattle.laws.specs.Children.{children_from, children_of}
use Rattle.matching.specs.NodeNotes.{noted, StepNumber, blank-noted}
use Rattle.matching.specs.Giving.{kids_hold, gives_at}
use Rattle.matching.specs.Gave.{Gave}
use Rattle.matching.specs.Filled.{step_holds, given_by, Filled, done_below}

module _ (ns : List Node) (ss : List Step) (rising : Rising (parents_of ns)) where
  -- every child step of q holds, by what is noted of each, exactly if the forest of these steps holds
  kids_are : (h : ℕ → Bool) (t : ℕ) → ((k : ℕ) → StepNumber ss k → h k ≡ step_holds ns ss t k)
      → (q j : ℕ) (rest : List Step) → drop j ss ≡ rest → kids_hold h q (suc j) rest ≡ hold_below ns (children_in q (suc j) rest) t
  unfolding kids_hold hold_below children_in pick step_holds children_of children_from step_at
  kids_are h t say q j [] e = refl
  kids_are h t say q j (s ∷ rest) e = go (eqb s.parent q) _ _ (kids_are h t say q (suc j) rest next)
    where
      next : drop (suc j) ss ≡ rest
      next = ap (λ j'. drop j' ss) (sym (add-one j)) ∙ sym (drop-drop 1 j ss) ∙ ap (λ (xs : List Step). drop 1 xs) e

      this : step_at ss (suc j) ≡ s
      this =
          let d : Step = record { parent = 0; axis = 0; label = 0 } in
          ap (λ i. get_or ss i d) (sym (add-zero j)) ∙ sym (get_or-drop j ss 0 d) ∙ ap (λ (xs : List Step). get_or xs 0 d) e

      kids : Forest
      kids = children_in (suc j) (suc (suc j)) rest

      here : h (suc j) ≡ some (fits_below ns t (axis_of s.axis) s.label (hold_below ns kids)) (numbers_from 1 (length ns))
      here =
          let there : suc j ≤ length ss = omega (arith, length-drop j ss, ap length e) in
          say (suc j) (record { low = omega arith; high = there }) ∙ rw (this, next)

      go : (b all : Bool) (others : Forest) → all ≡ hold_below ns others t
          → pick b (h (suc j) && all) all ≡ hold_below ns (pick b (step (axis_of s.axis) s.label kids others) others) t
      go true all others later = rw (here, later)
      go false all others later = later

  -- before the first node nothing is noted
  pub fill_starts : (size : ℕ) → length ns < size → Filled ns ss (length ns) (replicate size 0)
  unfolding numbers_from some
  fill_starts size h = record { full = rw (length-replicate {A = ℕ} size 0) h; notes = λ t k n. blank-noted size t k ∙ rw none_left }
    where
      none_left : length ns - length ns ≡ 0
      none_left = omega arith

  -- one node more
  module _ (words words' : List ℕ) (u up label : ℕ) (there : suc u ≤ length ns) (f : Filled ns ss (suc u) words) where
    say : (k : ℕ) → StepNumber ss k → noted words (suc u) k ≡ step_holds ns ss (suc u) k
    say k n = done_below ns ss rising words (suc u) k there f n

    -- what the node gives by the notes is what it gives
    gives_it : (t k : ℕ) → StepNumber ss k → up ≡ parent_in (parents_of ns) (suc u) → label ≡ label_in ns (suc u)
        → (eqb up t && gives_at (noted words (suc u)) label ss k) ≡ given_by ns ss t k (suc u)
    unfolding gives_at given_by is_child parent_in children_of children_from
    gives_it t k n e l = rw (e, l, kids_are (noted words (suc u)) (suc u) say k k (drop k ss) refl, say k n)

    pub fill-goes_on : up ≡ parent_in (parents_of ns) (suc u) → label ≡ label_in ns (suc u) → Gave words words' ss (suc u) up label → Filled ns ss u words'
    unfolding numbers_from some
    fill-goes_on e l g = record { full = rw g.full f.full; notes = notes }
      where
        one_more : length ns - u ≡ suc (length ns - suc u)
        one_more = omega arith

        notes : (t k : ℕ) → StepNumber ss k → noted words' t k ≡ some (given_by ns ss t k) (numbers_from (suc u) (length ns - u))
        notes t k n =
            let others = some (given_by ns ss t k) (numbers_from (suc (suc u)) (length ns - suc u)) in
            g.notes t k n ∙ rw (gives_it t k n e l, f.notes t k n, one_more) (or_comm others (given_by ns ss t k (suc u)))

  -- after the last node the root steps' notes are the answer
  pub fill-ends : (words : List ℕ) → Filled ns ss 0 words → kids_hold (noted words 0) 0 1 ss ≡ satisfies ns (forest ss)
  unfolding satisfies forest
  fill-ends words f = kids_are (noted words 0) 0 (λ k n. done_below ns ss rising words 0 k (omega arith) f n) 0 0 ss refl
