-- Whether anyone wants a document, with the tries until that was known; the answer of the hub's call is the same without the tries.
use Rattle.std.specs.Prelude.{ℕ, ◌+◌, ◌≡◌, refl, not, List, eqb, Bool, Result, Ok, Err}
use Rattle.std.proofs.Math.Path.{sym}
use Rattle.std.proofs.Common.{◌∙◌}
use Rattle.meaning.specs.Sections.{Sheet, Document, Entry}
use Rattle.meaning.specs.Routing.{table_route, wanted, tried_until_wanted}
use Rattle.meaning.specs.Calls.{three_judged, wanted_answer}
use Rattle.laws.specs.ThreeParts.{three_map}
use Rattle.laws.specs.WantedRoutes.{wanted-routed}
use Rattle.matching.specs.declared.Tried.{Tried}
use Rattle.shapes.specs.Shapes.{nodes_at}
use Rattle.places.specs.Bytes.{pair_at}
use Rattle.places.specs.Reached.{reached}
use Rattle.reading.specs.SheetPlaces.{sheet_at}
use Rattle.documents.specs.DocumentSection.{node_count_at, document_at}
use Rattle.tables.specs.TableSection.{table_at}
use Rattle.routing.specs.ThreeJudged.{three_place, three_judged_lem, three_nodes, three_fair}
use Rattle.meaning.specs.declared.Refusal.{Refusal}

-- whether anyone wants the document, and the tries until the answer comes
abbrev told : Sheet → List Entry → Document → Tried
told sh es dc = record { yes = wanted dc.nodes sh.patterns; tried = tried_until_wanted dc.nodes es sh.patterns }

-- the same from bytes, judged as for the route by a table
unfoldable pub sought_answer : List ℕ → List ℕ → List ℕ → Result Tried Refusal
sought_answer = three_judged Err (λ sh es dc. Ok (told sh es dc))

-- without the tries
unfoldable pub without_tries : Result Tried Refusal → Result Bool Refusal
without_tries (Err n) = Err n
without_tries (Ok asked) = Ok asked.yes

module _ (s t d : List ℕ) where
  -- the hub's answer
  pub sought_wanted : without_tries (sought_answer s t d) ≡ wanted_answer s t d
  unfolding sought_answer wanted_answer without_tries
  sought_wanted = three_map without_tries (λ n. refl) (λ sh es dc just up. refl) s t d

  -- by the place that was reached
  sought_by_place : sought_answer s t d ≡ reached (three_place s t d) Err (Ok (told (sheet_at s) (table_at t) (document_at d)))
  unfolding sought_answer
  sought_by_place = three_judged_lem s t d Err (λ sh es dc. Ok (told sh es dc))

  -- a refusal
  pub sought_refused : {m : Refusal} → three_place s t d ≡ Err m → Err m ≡ sought_answer s t d
  unfolding reached
  sought_refused h = sym (sought_by_place ∙ rw h)

  -- what asking by the table gives
  pub sought_told : {y at n : ℕ} {q : Tried} → three_place s t d ≡ Ok y → at ≡ node_count_at d + 2 → n ≡ pair_at d (node_count_at d)
      → (q.yes ≡ not (eqb (table_route (nodes_at d at n) (table_at t) (sheet_at s).patterns) 0))
      × (q.tried ≡ tried_until_wanted (nodes_at d at n) (table_at t) (sheet_at s).patterns)
      → Ok q ≡ sought_answer s t d
  unfolding reached document_at
  sought_told {y} {at} {n} {q} h a b (routed, count) =
      let ns = nodes_at d at n in
      let said : q.yes ≡ wanted ns (sheet_at s).patterns =
      routed ∙ sym (wanted-routed ns (sheet_at s).patterns (table_at t) (three_nodes s t d h a b).rising (three_fair s t d h)) in
      sym (sought_by_place ∙ rw (h, ← a, ← b, ← said, ← count))
