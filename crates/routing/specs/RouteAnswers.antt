-- The answers of the hub's calls, from what was judged by places.
use Rattle.std.specs.Prelude.{ℕ, ◌+◌, ◌≡◌, Bool, Result, Ok, Err}
use Rattle.std.proofs.Math.Path.{sym, ap}
use Rattle.std.proofs.Common.{◌∙◌}
use mathlib.Core.List.{List}
use Rattle.meaning.specs.Sections.{Sheet, Document, Node, Entry}
use Rattle.meaning.specs.Routing.{plain_route, table_route, tried}
use Rattle.meaning.specs.Calls.{matches_answer, plain_answer, table_answer}
use Rattle.shapes.specs.Shapes.{nodes_at}
use Rattle.places.specs.Bytes.{pair_at}
use Rattle.reading.specs.SheetPlaces.{sheet_at}
use Rattle.documents.specs.DocumentSection.{node_count_at, document_at}
use Rattle.places.specs.Reached.{reached}
use Rattle.meaning.specs.declared.Tabled.{Tabled}
use Rattle.documents.specs.DocumentJudged.{both_judged, sheet_document_place}
use Rattle.routing.specs.ThreeJudged.{three_place, three_judged_lem}
use Rattle.routing.specs.Plain.{numbered_answer}
use Rattle.routing.specs.Tabling.{route_by, route-tried}
use Rattle.routing.specs.TableSet.{route-set}
use Rattle.tables.specs.TableSection.{table_at}
use Rattle.meaning.specs.declared.Refusal.{Refusal}

module _ (s d : List ℕ) where
  -- ---- the plain route

  abbrev plain_says : Sheet → Document → Result ℕ Refusal
  plain_says sh dc = Ok (plain_route dc.nodes sh.patterns)

  -- by the place that was reached
  plain-by_place : plain_answer s d ≡ reached (sheet_document_place s d) Err (plain_says (sheet_at s) (document_at d))
  unfolding plain_answer
  plain-by_place = both_judged s d Err plain_says

  -- a refusal
  pub plain-refused : {m : Refusal} → sheet_document_place s d ≡ Err m → Err m ≡ plain_answer s d
  unfolding reached
  plain-refused h = sym (plain-by_place ∙ rw h)

  -- ---- one subscription by its number

  module _ (i : ℕ) where
    abbrev match_says : Sheet → Document → Result Bool Refusal
    match_says sh dc = numbered_answer dc.nodes sh i

    -- by the place that was reached
    match_by_place : matches_answer s d i ≡ reached (sheet_document_place s d) Err (match_says (sheet_at s) (document_at d))
    unfolding matches_answer numbered_answer
    match_by_place = both_judged s d Err match_says

    -- a refusal
    pub match_refused : {m : Refusal} → sheet_document_place s d ≡ Err m → Err m ≡ matches_answer s d i
    unfolding reached
    match_refused h = sym (match_by_place ∙ rw h)

  -- where both were judged, and the nodes stand
  module _ {y at n : ℕ} (h : sheet_document_place s d ≡ Ok y) (e : at ≡ node_count_at d + 2) (f : n ≡ pair_at d (node_count_at d)) where
    -- the nodes of the document are those that stand there
    nodes_there : (document_at d).nodes ≡ nodes_at d at n
    unfolding document_at
    nodes_there = rw (e, f)

    -- the plain route is delivered
    pub plain-delivered : {set : ℕ} → set ≡ plain_route (nodes_at d at n) (sheet_at s).patterns → Ok set ≡ plain_answer s d
    unfolding reached
    plain-delivered r =
        ap Ok (r ∙ ap (λ (ns : List Node). plain_route ns (sheet_at s).patterns) (sym nodes_there)) ∙ sym (plain-by_place ∙ rw h)

    -- the subscription is answered
    pub match_answered : (i : ℕ) {a : Result Bool Refusal} → a ≡ numbered_answer (nodes_at d at n) (sheet_at s) i → a ≡ matches_answer s d i
    unfolding reached
    match_answered i r =
        r ∙ ap (λ (ns : List Node). numbered_answer ns (sheet_at s) i) (sym nodes_there) ∙ sym (match_by_place i ∙ rw h)

-- ---- the route by a table
module _ (s t d : List ℕ) where
  abbrev table_says : Sheet → List Entry → Document → Result Tabled Refusal
  table_says sh es dc = Ok (record { set = table_route dc.nodes es sh.patterns; tried = tried dc.nodes es sh.patterns })

  -- by the place that was reached
  table-by_place : table_answer s t d ≡ reached (three_place s t d) Err (table_says (sheet_at s) (table_at t) (document_at d))
  unfolding table_answer
  table-by_place = three_judged_lem s t d Err table_says

  -- a refusal
  pub table-refused : {m : Refusal} → three_place s t d ≡ Err m → Err m ≡ table_answer s t d
  unfolding reached
  table-refused h = sym (table-by_place ∙ rw h)

  -- the route by the table is delivered
  pub table-delivered : {y at n : ℕ} {r : Tabled} → three_place s t d ≡ Ok y → at ≡ node_count_at d + 2 → n ≡ pair_at d (node_count_at d)
      → r ≡ route_by (nodes_at d at n) (sheet_at s).patterns (table_at t) → Ok r ≡ table_answer s t d
  unfolding reached document_at
  table-delivered {y} {at} {n} {r} h a b q =
      let ns = nodes_at d at n in
      let set : r.set ≡ table_route ns (table_at t) (sheet_at s).patterns = ap (λ (u : Tabled). u.set) q ∙ route-set ns (sheet_at s).patterns (table_at t) in
      let count : r.tried ≡ tried ns (table_at t) (sheet_at s).patterns = ap (λ (u : Tabled). u.tried) q ∙ route-tried ns (sheet_at s).patterns (table_at t) in
      sym (table-by_place ∙ rw (h, ← a, ← b, ← set, ← count))
