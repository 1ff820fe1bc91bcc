-- A document satisfies a pattern by label numbers exactly if it does by label bytes: no label occurs twice, nor in both
-- sheet and document, so two label numbers stand for the same bytes exactly if they are equal.
use Prim.Native.Nat.{ℕ, zero, suc, ◌+◌, ◌≤◌, ◌<◌}
use Rattle.std.specs.Prelude.{◌≡◌, ◌⊎◌, ◌↔◌, true, false, List, [], ◌∷◌, ◌++◌, eqb, leb, ltb, length}
use Rattle.std.proofs.Math.Path.{refl, ap}
use Rattle.std.proofs.Common.{sym, subst}
use Rattle.std.proofs.Math.Logic.{inl, inr, ⊎_elim}
use Rattle.std.proofs.Math.Bool.{Bool}
use native.Mathlib.Omega.{arith}
use borrow.Author.Tests.{eqb-true, eqb-false, eq-eqb, leb-true, ltb-true, ltb-false}
use Rattle.std.proofs.Math.ListN.{length-append}
use Rattle.base.specs.Bools.{and_first, and_second, and_both, or_cases, or_first, or_second, true_or_false}
use Rattle.base.specs.Lists.{some, numbers_from}
use Rattle.base.specs.Replacing.{place_in}
use Rattle.base.specs.SomeNumber.{some_number, some_number_of}
use Rattle.meaning.specs.Reader.{read}
use Rattle.meaning.specs.Forest.{Forest, none, step, reaches}
use Rattle.meaning.specs.Sections.{Sheet, sheet, Document, document, Node, a_node, nodes}
use Rattle.meaning.specs.Satisfying.{any_or_same, parents_of, label_in, fits_below, hold_below, satisfies}
use Rattle.meaning.specs.LabelBytes.{labels_of, label_at}
use Rattle.meaning.specs.Calls.{is_subscription, subscription}
use Rattle.meaning.specs.ByBytes.{AnyOrSameBytes, AllHoldBelow, Satisfied}
use Rattle.laws.specs.Readers.{give-read, bind_read, test_read, byte-read}
use Rattle.laws.specs.DocumentRead.{document-read}
use Rattle.laws.specs.RoundTrip.{labels-read, sheet-read}
use Rattle.laws.specs.MergeLabels.{LabelsWithin, labels_more}
use Rattle.laws.specs.Labels.{Distinct, document_distinct}

-- ---- a node's label is one of the sheet's or of the document's

-- from 1 to n
abbrev Known : ℕ → ℕ → Type 0
Known n l = (1 ≤ l) × (l ≤ n)

-- a node that was read has such a label
node-known : (known k : ℕ) (bs left : List ℕ) (d : Node) → a_node known k bs ≡ read d left → Known known d.label
unfolding a_node
node-known known k bs left d h =
    let p = bind_read _ _ bs d left h in
    let rule = test_read _ _ _ p.middle p.after in
    let l = byte-read _ p.middle rule.1 in
    let within = test_read _ _ _ l.others l.after in
    subst (λ (n : Node). Known known n.label) (give-read _ l.others within.1).0 (
      leb-true 1 l.first (and_first (leb 1 l.first) (leb l.first known) within.0),
      leb-true l.first known (and_second (leb 1 l.first) (leb l.first known) within.0),
    )

-- every node of the list has a label from 1 to n
abbrev pub AllKnown : ℕ → List Node → Type 0
AllKnown n ds = (k : ℕ) → k < length ds → Known n (label_in ds (suc k))

one_more : (n : ℕ) (d : Node) (ds : List Node) → Known n d.label → AllKnown n ds → AllKnown n (d ∷ ds)
unfolding label_in
one_more n d ds h later zero l = h
one_more n d ds h later (suc k) l = later k (omega arith)

-- the nodes that were read have
nodes-known : (known n k : ℕ) (bs left : List ℕ) (ds : List Node) → nodes known n k bs ≡ read ds left → AllKnown known ds
unfolding nodes
nodes-known known zero k bs left ds h = subst (AllKnown known) (give-read [] bs h).0 (λ i l. absurd (omega arith))
nodes-known known (suc n) k bs left ds h =
    let one = bind_read (a_node known k) _ bs ds left h in
    let more = bind_read (nodes known n (suc k)) _ one.middle ds left one.after in
    subst (AllKnown known) (give-read _ more.middle more.after).0
    (one_more known one.value more.value (node-known known k bs one.middle one.value one.before)
    (nodes-known known n (suc k) one.middle more.middle more.value more.before))

-- and so have those of a document that was read
document-known : (sh : Sheet) (d rest : List ℕ) (dc : Document) → document sh d ≡ read dc rest → AllKnown (length (labels_of sh dc)) dc.nodes
unfolding labels_of
document-known sh d rest dc h =
    let r = document-read sh d rest dc h in
    let named = labels-read r.count sh.labels r.others dc.labels r.middle r.named in
    let known : length sh.labels + r.count ≡ length (sh.labels ++ dc.labels) = omega (arith, named.0, length-append sh.labels dc.labels) in
    subst (λ (k : ℕ). AllKnown k dc.nodes) known (nodes-known _ r.many 1 r.from r.to dc.nodes r.stood)

-- ---- by numbers and by bytes

module _ (ls : List (List ℕ)) (apart : Distinct ls) where
  -- two labels with the same bytes have one number
  pub same_number : (l m : ℕ) → Known (length ls) l → Known (length ls) m → label_at ls l ≡ label_at ls m → l ≡ m
  unfolding label_at
  same_number zero m (o, h) k e = absurd (omega arith)
  same_number (suc l) zero h (o, k) e = absurd (omega arith)
  same_number (suc l) (suc m) (o, h) (q, k) e = go (true_or_false (eqb l m)) (true_or_false (ltb l m))
    where
      go : (eqb l m ≡ true) ⊎ (eqb l m ≡ false) → (ltb l m ≡ true) ⊎ (ltb l m ≡ false) → suc l ≡ suc m
      go (inl a) b = ap suc (eqb-true l m a)
      go (inr a) (inl b) = absurd (apart l m (ltb-true l m b) (omega arith) e)
      go (inr a) (inr b) = absurd (apart m l (omega (arith, ltb-false l m b, eqb-false l m a)) (omega arith) (sym e))

  -- a label of a step fits a node's by its number exactly if it does by its bytes
  number_bytes_lem : (l m : ℕ) → any_or_same l m ≡ true → AnyOrSameBytes ls l m
  unfolding any_or_same
  number_bytes_lem l m h = ⊎_elim (λ e. inl (eqb-true l 0 e)) (λ e. inr (ap (label_at ls) (eqb-true l m e))) (or_cases (eqb l 0) (eqb l m) h)

  bytes-number : (l m : ℕ) → l ≤ length ls → Known (length ls) m → AnyOrSameBytes ls l m → any_or_same l m ≡ true
  unfolding any_or_same
  bytes-number l m h k (inl e) = or_first (eqb l 0) (eqb l m) (eq-eqb l 0 e)
  bytes-number zero m h k (inr e) = or_first (eqb 0 0) (eqb 0 m) (eq-eqb 0 0 refl)
  bytes-number (suc l) m h k (inr e) = or_second (eqb (suc l) 0) (eqb (suc l) m) (eq-eqb (suc l) m (same_number (suc l) m (omega arith, h) k e))

  module _ (ns : List Node) (known : AllKnown (length ls) ns) where
    -- the label of a node that is there
    node_label_lem : (u : ℕ) → 1 ≤ u → u ≤ length ns → Known (length ls) (label_in ns u)
    node_label_lem zero o l = absurd (omega arith)
    node_label_lem (suc u) o l = known u (omega arith)

    -- what holds by numbers holds by bytes
    numbers-bytes : (p : Forest) (t : ℕ) → hold_below ns p t ≡ true → AllHoldBelow ls ns p t
    unfolding hold_below fits_below
    numbers-bytes none t h = tt
    numbers-bytes (step x l kids later) t h =
        let here : Bool = some (fits_below ns t x l (hold_below ns kids)) (numbers_from 1 (length ns)) in
        let r = some_number (fits_below ns t x l (hold_below ns kids)) 1 (length ns) (and_first here (hold_below ns later t) h) in
        let u = r.0 in
        let fits = and_second (reaches x (parents_of ns) t u) _ r.3 in (
          record {
            node = u;
            there = (r.1, omega (arith, r.2));
            within = and_first (reaches x (parents_of ns) t u) _ r.3;
            label = number_bytes_lem l (label_in ns u) (and_first (any_or_same l (label_in ns u)) (hold_below ns kids u) fits);
            children = numbers-bytes kids u (and_second (any_or_same l (label_in ns u)) (hold_below ns kids u) fits);
          },
          numbers-bytes later t (and_second here (hold_below ns later t) h),
        )

    -- and the other way round, where the pattern's labels are known
    bytes-numbers : (p : Forest) → LabelsWithin (length ls) p → (t : ℕ) → AllHoldBelow ls ns p t → hold_below ns p t ≡ true
    unfolding hold_below fits_below LabelsWithin
    bytes-numbers none w t h = refl
    bytes-numbers (step x l kids later) w t (f, more) =
        let u = f.node in
        let own = node_label_lem u f.there.0 f.there.1 in
        let fits = and_both (any_or_same l (label_in ns u)) (hold_below ns kids u) (bytes-number l (label_in ns u) w.0 own f.label)
        (bytes-numbers kids w.1 u f.children) in
        and_both _ (hold_below ns later t)
        (some_number_of (fits_below ns t x l (hold_below ns kids)) 1 (length ns) u f.there.0 (omega (arith, f.there.1))
        (and_both (reaches x (parents_of ns) t u) _ f.within fits))
        (bytes-numbers later w.2 t more)

    -- a document satisfies a pattern exactly if it does by label bytes
    satisfies-by_bytes : (p : Forest) → LabelsWithin (length ls) p → (satisfies ns p ≡ true) ↔ Satisfied ls ns p
    unfolding satisfies
    satisfies-by_bytes p w = (numbers-bytes p 0, bytes-numbers p w 0)

-- ---- of a sheet and a document that were read

module _ (s left : List ℕ) (sh : Sheet) (was_read : sheet s ≡ read sh left) (d rest : List ℕ) (dc : Document) (doc-read : document sh d ≡ read dc rest) where
  -- a subscription's labels are the sheet's
  labels-known : (i : ℕ) → is_subscription sh i ≡ true → LabelsWithin (length (labels_of sh dc)) (subscription sh i)
  unfolding is_subscription subscription labels_of
  labels-known i h =
      labels_more (length sh.labels) (length (sh.labels ++ dc.labels)) (omega (arith, length-append sh.labels dc.labels)) (subscription sh i)
      ((sheet-read s left sh was_read).sound _ (place_in sh.patterns i none (ltb-true i (length sh.patterns) h))).within

  -- the document satisfies a subscription exactly if it does by label bytes
  pub read-by_bytes : (i : ℕ) → is_subscription sh i ≡ true
      → (satisfies dc.nodes (subscription sh i) ≡ true) ↔ Satisfied (labels_of sh dc) dc.nodes (subscription sh i)
  read-by_bytes i there =
      satisfies-by_bytes (labels_of sh dc) (document_distinct s left sh was_read d rest dc doc-read) dc.nodes
      (document-known sh d rest dc doc-read) (subscription sh i)
      (labels-known i there)
