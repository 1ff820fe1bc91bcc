-- A document that was judged beside a sheet that was judged stands as it was read.
use Rattle.std.specs.Prelude.{ℕ, zero, suc, ◌+◌, ◌*◌, ◌≤◌, ◌<◌, ◌≡◌, List, leb, ltb, length, get_or, drop, Ok}
use Rattle.std.proofs.Common.{sym, ◌∙◌, arith, ltb-true, leb-true}
use Rattle.std.proofs.Math.Path.{ap}
use Rattle.base.specs.Loops.{and_then}
use Rattle.base.specs.Standing.{place_after}
use Rattle.meaning.specs.Numbers.{most_labels, most_nodes}
use Rattle.meaning.specs.Sections.{Sheet, sheet, Document, document}
use Rattle.meaning.specs.Satisfying.{parents_of}
use Rattle.meaning.specs.Calls.{judged, document_number}
use Rattle.shapes.specs.Shapes.{after_node, nodes_at}
use Rattle.laws.specs.Rising.{Rising}
use Rattle.laws.specs.JudgingGives.{document_rises}
use Rattle.places.specs.Bytes.{pair_at, number_at, Place}
use Rattle.places.specs.Answer.{passed, passed_on}
use Rattle.places.specs.Section.{section-read, section-number}
use Rattle.places.specs.Reached.{reached, section-judged, reached-twice, number-after}
use Rattle.labels.specs.LabelSection.{labels_place, labels_section}
use Rattle.reading.specs.SheetPlaces.{sheet_at}
use Rattle.reading.specs.SheetSection.{sheet_section, sheet_place}
use Rattle.reading.specs.SheetJudged.{sheet-judged, SheetStands, sheet-stands}
use Rattle.documents.specs.DocumentSection.{nodes_section, nodes_place, document_section, nodes_to_end, document_place, node_count_at, document_at}
use Rattle.meaning.specs.declared.Refusal.TheVariants.{CountOutside, EndsEarly}
use Rattle.meaning.specs.declared.Refusal.{Refusal}

-- where both end, the sheet judged first
unfoldable pub sheet_document_place : List ℕ → List ℕ → Place
sheet_document_place s d = and_then (sheet_place s) (λ x. document_place s d)

module _ {B : Type 0} (s d : List ℕ) (refuse : Refusal → B) where
  -- a document beside its sheet is answered by its place
  pub document-judged : (next : Document → B) → judged (document (sheet_at s) d) refuse next ≡ reached (document_place s d) refuse (next (document_at d))
  unfolding document_section
  document-judged next = section-judged (document_section s d) refuse next

  -- the sheet first, then the document
  pub both_judged : (next : Sheet → Document → B)
      → judged (sheet s) refuse (λ sh. judged (document sh d) refuse (next sh))
      ≡ reached (sheet_document_place s d) refuse (next (sheet_at s) (document_at d))
  unfolding sheet_document_place
  both_judged next =
      sheet-judged s refuse (λ sh. judged (document sh d) refuse (next sh))
      ∙ ap (reached (sheet_place s) refuse) (document-judged (next (sheet_at s)))
      ∙ reached-twice (sheet_place s) (document_place s d) refuse (next (sheet_at s) (document_at d))

-- the number of a document
pub document_number_lem : (s d : List ℕ) → number_at (sheet_document_place s d) ≡ document_number s d
unfolding document_number sheet_document_place sheet_section
document_number_lem s d = sym (number-after (sheet_section s) _ (document_place s d) (section-number (document_section s d)))

-- n nodes from a place on
pub record NodesStand (d : List ℕ) (at n : ℕ) : Type 0 where
  pub few : n ≤ most_nodes
  pub inside : at + 3 * n ≤ length d
  pub rising : Rising (parents_of (nodes_at d at n))

-- those of a document, from behind their count on
abbrev pub DocumentStands : List ℕ → Type 0
DocumentStands d = NodesStand d (node_count_at d + 2) (pair_at d (node_count_at d))

-- three bytes a node
threes : (x n : ℕ) → place_after after_node x n ≡ x + 3 * n
unfolding place_after after_node
threes x zero = omega arith
threes x (suc n) = threes (x + 3) n ∙ omega arith

-- the nodes from their count at x on
nodes-inside : (d : List ℕ) (known x y : ℕ) → nodes_place d known x ≡ Ok y → (pair_at d x ≤ most_nodes) × (x + 2 + 3 * pair_at d x ≤ length d)
unfolding nodes_place nodes_section
nodes-inside d known x y h =
    let a = passed (ltb x (length d)) _ EndsEarly y h in
    let b = passed (ltb (x + 1) (length d)) _ EndsEarly y a.1 in
    let c = passed (leb 1 (pair_at d x)) _ CountOutside y b.1 in
    let e = passed (leb (pair_at d x) most_nodes) _ CountOutside y c.1 in
    let start : x + 1 < length d = ltb-true (x + 1) (length d) b.0 in
    let far : y ≡ x + 2 + 3 * pair_at d x = (nodes_section d known (pair_at d x) (x + 2)).leads y e.1 ∙ threes (x + 2) (pair_at d x) in
    let within : y ≤ length d = (nodes_section d known (pair_at d x) (x + 2)).within y (omega arith) e.1 in
    (leb-true (pair_at d x) most_nodes e.0, omega arith)

-- so it is of a document that was judged
pub document-stands : (s d : List ℕ) (y at n : ℕ) → document_place s d ≡ Ok y → at ≡ node_count_at d + 2
    → n ≡ pair_at d (node_count_at d) → NodesStand d at n
unfolding document_section nodes_to_end labels_section document_at node_count_at
document-stands s d y at n h e f =
    let a = passed (ltb 0 (length d)) _ EndsEarly y h in
    let b = passed (leb (get_or s 0 0 + get_or d 0 0) most_labels) _ CountOutside y a.1 in
    let c = passed_on (labels_place s (get_or s 0 0) d 1 (get_or d 0 0)) _ y b.1 in
    let g = passed_on (nodes_place d (get_or s 0 0 + get_or d 0 0) c.0) _ y c.2 in
    let r = section c.0 g.0 ((labels_section s (get_or s 0 0) d 1 (get_or d 0 0)).leads c.0 c.1) g.1 in
    rw (e, f) (record {
      few = r.0;
      inside = r.1;
      rising = document_rises (sheet_at s) d (drop y d) (document_at d) (section-read (document_section s d) y h);
    })
  where
    section : (x z : ℕ) → x ≡ node_count_at d → nodes_place d (get_or s 0 0 + get_or d 0 0) x ≡ Ok z
        → (pair_at d (node_count_at d) ≤ most_nodes) × (node_count_at d + 2 + 3 * pair_at d (node_count_at d) ≤ length d)
    section x z there k = nodes-inside d (get_or s 0 0 + get_or d 0 0) (node_count_at d) z (rw there at k)

-- both stand where both were judged
pub sheet-document-stand : (s d : List ℕ) (y at n : ℕ) → sheet_document_place s d ≡ Ok y → at ≡ node_count_at d + 2
    → n ≡ pair_at d (node_count_at d) → SheetStands s × NodesStand d at n
unfolding sheet_document_place
sheet-document-stand s d y at n h e f =
    let a = passed_on (sheet_place s) _ y h in
    (sheet-stands s a.0 a.1, document-stands s d y at n a.2 e f)
