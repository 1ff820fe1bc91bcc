-- What judging gives: the nodes of a document that was read rise, and so do the steps of a pattern; steps that were read
-- are the written steps of their forest.
use Rattle.std.specs.Prelude.{ℕ, zero, suc, ◌+◌, ◌≤◌, ◌<◌, ◌≡◌, Bool, true, false, ◌&&◌, eqb, leb, ltb, length, get_or}
use Rattle.std.proofs.Common.{sym, ap, ◌∙◌, subst, subst₂, arith, eqb-true, ltb-true, leb-true, length-append}
use mathlib.Core.List.{List, [], ◌∷◌, ◌++◌, Memᴰ}
use Rattle.base.specs.Bools.{and_second}
use Rattle.base.specs.Choice.{pick}
use Rattle.base.specs.ListLaws.{some-gives}
use Rattle.meaning.specs.Reader.{read}
use Rattle.meaning.specs.Forest.{forest, steps_of}
use Rattle.meaning.specs.Sections.{Sheet, Document, document, Node, node_parent, a_node, nodes, up_from, path_after, may_hang, steps}
use Rattle.meaning.specs.Satisfying.{parents_of}
use Rattle.meaning.specs.Covering.{step_parents}
use Rattle.meaning.specs.declared.Step.{Step}
use Rattle.laws.specs.Rising.{Rising}
use Rattle.laws.specs.DocumentRead.{document-read}
use Rattle.laws.specs.Readers.{give-read, bind_read, test_read, byte-read}
use Rattle.laws.specs.Preorder.{Hanging, hanging_rises, hanging_written}
use Rattle.laws.specs.Sound.{SoundSteps, steps-read}

-- ---- documents

-- a parent that passes has a lower number
parent-low : (k p : ℕ) → 1 ≤ k → node_parent k p ≡ true → p < k
unfolding node_parent pick
parent-low k p h e = go (eqb k 1) e
  where
    go : (b : Bool) → pick b (eqb p 0) (leb 1 p && ltb p k) ≡ true → p < k
    go true q = omega (arith, eqb-true p 0 q)
    go false q = ltb-true p k (and_second (leb 1 p) (ltb p k) q)

-- a node that was read has such a parent
node-read : (known k : ℕ) (bs left : List ℕ) (d : Node) → a_node known k bs ≡ read d left → node_parent k d.parent ≡ true
unfolding a_node
node-read known k bs left d h =
    let p = bind_read _ _ bs d left h in
    let rule = test_read _ _ _ p.middle p.after in
    let l = byte-read _ p.middle rule.1 in
    let low = test_read _ _ _ l.others l.after in
    ap (λ (n : Node). node_parent k n.parent) (sym (give-read _ l.others low.1).0) ∙ rule.0

-- the parents from number k on are lower than their nodes' numbers
abbrev Low : ℕ → List Node → Type 0
Low k ds = (i : ℕ) → i < length (parents_of ds) → get_or (parents_of ds) i 0 < k + i

-- one node more before them
low_first : (k : ℕ) (d : Node) (ds : List Node) → d.parent < k → Low (suc k) ds → Low k (d ∷ ds)
unfolding parents_of
low_first k d ds h later zero l = omega arith
low_first k d ds h later (suc i) l = omega (arith, later i (omega arith))

-- of none
low_none : (k : ℕ) → Low k []
unfolding parents_of
low_none k i l = absurd (omega arith)

-- so it is of the nodes that were read
nodes-low : (known n k : ℕ) (bs left : List ℕ) (ds : List Node) → 1 ≤ k → nodes known n k bs ≡ read ds left → Low k ds
unfolding nodes
nodes-low known zero k bs left ds a h = subst (Low k) (give-read [] bs h).0 (low_none k)
nodes-low known (suc n) k bs left ds a h =
    let one = bind_read (a_node known k) _ bs ds left h in
    let more = bind_read (nodes known n (suc k)) _ one.middle ds left one.after in
    subst (Low k) (give-read _ more.middle more.after).0
    (low_first k one.value more.value
    (parent-low k one.value.parent a (node-read known k bs one.middle one.value one.before))
    (nodes-low known n (suc k) one.middle more.middle more.value (omega arith) more.before))

-- the nodes of a document that was read rise
pub document_rises : (sh : Sheet) (bs left : List ℕ) (d : Document) → document sh bs ≡ read d left → Rising (parents_of d.nodes)
document_rises sh bs left d h =
    let r = document-read sh bs left d h in
    record { low = λ k l. omega (arith, nodes-low _ r.many 1 r.from r.to d.nodes (omega arith) r.stood k l) }

-- ---- steps

-- the path after one step more
pub path_after_lem : (k : ℕ) (path : List ℕ) (ss : List Step) (s : Step)
    → path_after k path (ss ++ (s ∷ [])) ≡ (k + length ss) ∷ up_from s.parent (path_after k path ss)
unfolding path_after
path_after_lem k path [] s = ap {B = List ℕ} (λ (n : ℕ). n ∷ up_from s.parent path) (omega arith)
path_after_lem k path (r ∷ ss) s =
    path_after_lem (suc k) (k ∷ up_from r.parent path) ss s
    ∙ ap {B = List ℕ} (λ (n : ℕ). n ∷ up_from s.parent (path_after k path (r ∷ ss))) (omega arith)

-- sound steps hang on the path after those before them
pub sound_hanging : (known : ℕ) (before ss : List Step) → SoundSteps known before ss → Hanging (suc (length before)) (path_after 1 (0 ∷ []) before) ss
unfolding may_hang
sound_hanging known before [] h = tt
sound_hanging known before (s ∷ ss) h =
    let path = path_after 1 (0 ∷ []) before in
    let on = some-gives (eqb s.parent) path h.0.hangs in
    let later = sound_hanging known (before ++ (s ∷ [])) ss h.1 in (
      subst (λ (n : ℕ). Memᴰ n path) (sym (eqb-true s.parent on.0 on.2)) on.1,
      leb-true s.axis 1 h.0.axis,
      subst₂ (λ (n : ℕ) (l : List ℕ). Hanging n l ss)
          (ap suc (length-append before (s ∷ [])) ∙ omega arith)
          (path_after_lem 1 (0 ∷ []) before s ∙ ap {B = List ℕ} (λ (n : ℕ). n ∷ up_from s.parent path) (omega arith))
          later,
    )

-- steps that were read are the written steps of their forest
pub steps-written : (known n : ℕ) (bs left : List ℕ) (ss : List Step) → steps known n [] bs ≡ read ss left → steps_of (forest ss) ≡ ss
unfolding path_after
steps-written known n bs left ss h = hanging_written ss (sound_hanging known [] ss (steps-read known n [] bs ss left h).0)

-- and their parents rise
pub steps_rise : (known n : ℕ) (bs left : List ℕ) (ss : List Step) → steps known n [] bs ≡ read ss left → Rising (step_parents ss)
unfolding path_after
steps_rise known n bs left ss h =
    record { low = λ k l. omega (arith, hanging_rises 1 (0 ∷ []) ss (omega arith, tt) (sound_hanging known [] ss (steps-read known n [] bs ss left h).0) k l) }
