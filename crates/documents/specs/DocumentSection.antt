-- Documents beside a sheet that was judged: how they are judged by places in their bytes, and that this is how the paper
-- reads them.
use Prim.Native.Nat.{ℕ, suc, ◌+◌, ◌≤◌}
use Rattle.std.specs.Prelude.{◌≡◌, ◌&&◌, List, leb, ltb, length, get_or, drop, Ok, Err}
use Rattle.std.proofs.Math.Path.{refl}
use Rattle.std.proofs.Common.{sym, ap, ◌∙◌, add-one}
use native.Mathlib.Omega.{arith}
use Rattle.base.specs.Choice.{pick}
use Rattle.base.specs.Loops.{and_then, run}
use Rattle.base.specs.Standing.{place_after}
use Rattle.meaning.specs.Numbers.{most_labels, most_nodes}
use Rattle.meaning.specs.Reader.{◌>>=◌, ◌>>◌, give, unless, number, end}
use Rattle.meaning.specs.Sections.{node_parent, Node, a_node, nodes, Document, document}
use Rattle.shapes.specs.Shapes.{node_at, after_node, nodes_at}
use Rattle.places.specs.Bytes.{pair_at, end_place, Place}
use Rattle.places.specs.Answer.{answer, and_then-pick}
use Rattle.places.specs.Section.{Section, judged_as, read_as, stands_as}
use Rattle.labels.specs.LabelPlaces.{after_label, texts_at, labels_in}
use Rattle.labels.specs.LabelSection.{labels_section}
use Rattle.reading.specs.SheetPlaces.{sheet_at, labels-counted}
use Rattle.places.specs.Fields.{given, byte_then, pair_then, unless_then, unless_as, unless_both, section_then, end_then}
use Rattle.places.specs.InTurn.{in_turn}
use Rattle.meaning.specs.declared.Refusal.TheVariants.{EndsEarly, CountOutside, ParentRule, LabelOutside}

-- ---- nodes

-- the last byte of a node, its label
unfoldable pub node_label : List ℕ → ℕ → ℕ → Place
node_label d known x =
    pick (ltb x (length d))
    (pick (leb 1 (get_or d x 0)) (pick (leb (get_or d x 0) known) (Ok (x + 1)) (Err LabelOutside)) (Err LabelOutside))
    (Err EndsEarly)

module _ (d : List ℕ) (known : ℕ) where
  -- a node at x, after i others, with so many labels
  unfoldable pub node_section : (i x : ℕ) → Section d (a_node known (i + 1)) x
  unfolding a_node node_at pair_at after_node
  node_section i x =
      stands_as (node_at d x) (x + 2 + 1) (
      pair_then λ parent.
      unless_then ParentRule (node_parent (i + 1) parent) (
      byte_then λ label.
      unless_both LabelOutside (leb 1 label) (leb label known) (
      given _)))
      refl refl

  abbrev pub node_place : ℕ → ℕ → Place
  node_place i x = (node_section i x).place

  -- three bytes a node
  pub node-leads : (i x y : ℕ) → node_place i x ≡ Ok y → y ≡ after_node x
  unfolding node_section after_node
  node-leads i x y h = (node_section i x).leads y h ∙ omega arith

  pub node-within : (i x y : ℕ) → x ≤ length d → node_place i x ≡ Ok y → y ≤ length d
  node-within i x y = (node_section i x).within y

  pub node-reads : (i x : ℕ) → a_node known (i + 1) (drop x d) ≡ answer d (node_at d x) (node_place i x)
  unfolding node_section
  node-reads i x = (node_section i x).reads

  pub node-next : (i y z k : ℕ) → k ≡ i + 1 → node_place i y ≡ Ok z → suc k ≡ i + 1 + 1
  node-next i y z k h e = ap suc h ∙ sym (add-one (i + 1))

  -- n nodes from a place on
  unfoldable pub nodes_section : (n x : ℕ) → Section d (nodes known n 1) x
  unfolding nodes nodes_at
  nodes_section n x =
      stands_as (nodes_at d x n) (place_after after_node x n) (
      in_turn d (nodes known) (a_node known) (λ k v. suc k) (λ k. refl) (λ m k. refl) (node_at d) after_node node_place (λ i y k. k ≡ i + 1)
      (λ i y k h. rw h (node-reads i y)) node-leads node-within node-next n x 1 refl)
      refl refl

  -- the nodes from their count at x on
  unfoldable pub nodes_place : ℕ → Place
  nodes_place x =
      pick (ltb x (length d))
      (pick (ltb (x + 1) (length d))
      (pick (leb 1 (pair_at d x))
      (pick (leb (pair_at d x) most_nodes) (run node_place (pair_at d x) 0 (x + 2)) (Err CountOutside))
      (Err CountOutside))
      (Err EndsEarly))
      (Err EndsEarly)

-- ---- a document

-- the place of the count of nodes
unfoldable pub node_count_at : List ℕ → ℕ
node_count_at d = place_after (after_label d) 1 (get_or d 0 0)

-- the document that stands in the bytes
unfoldable pub document_at : List ℕ → Document
document_at d = record { labels = texts_at d 1 (get_or d 0 0); nodes = nodes_at d (node_count_at d + 2) (pair_at d (node_count_at d)) }

abbrev pub a_document : List (List ℕ) → List Node → Document
a_document ls ds = record { labels = ls; nodes = ds }

-- the nodes of a document of n labels, from their count at x on, and the end
unfoldable pub nodes_to_end : (s d : List ℕ) (n x : ℕ) → Section d (
    ◌>>=◌ (number 2) λ m.
    ◌>>◌ (unless CountOutside (leb 1 m && leb m most_nodes)) (
    ◌>>=◌ (nodes (length (sheet_at s).labels + n) m 1) λ ds.
    ◌>>◌ end (give (a_document (texts_at d 1 n) ds)))) x
unfolding nodes_place nodes_section and_then
nodes_to_end s d n x =
    judged_as (and_then (nodes_place d (get_or s 0 0 + n) x) (end_place d)) (
    pair_then λ m.
    unless_both CountOutside (leb 1 m) (leb m most_nodes) (
    section_then _ (read_as (ap (λ (k : ℕ). nodes (k + n) m 1) (sym (labels-counted s))) (nodes_section d (get_or s 0 0 + n) m (x + 2))) λ y.
    end_then _))
    (simp and_then-pick)

unfoldable pub document_section : (s d : List ℕ) → Section d (document (sheet_at s)) 0
unfolding document nodes_to_end document_at node_count_at sheet_at labels_in labels_section texts_at
document_section s d =
    stands_as (document_at d) _ (
    byte_then λ n.
    unless_as CountOutside (leb (get_or s 0 0 + n) most_labels) (ap (λ (k : ℕ). leb (k + n) most_labels) (labels-counted s)) (
    section_then _ (labels_section s (get_or s 0 0) d 1 n) (nodes_to_end s d n)))
    refl refl

-- where a document ends, beside a sheet, or the number of its first fault
abbrev pub document_place : List ℕ → List ℕ → Place
document_place s d = (document_section s d).place
