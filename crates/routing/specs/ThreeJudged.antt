-- Sheet, table and document judged by places, in this order.
use Rattle.std.specs.Prelude.{ℕ, ◌+◌, ◌≡◌, true, List, Ok}
use Rattle.std.proofs.Math.Path.{ap}
use Rattle.std.proofs.Common.{◌∙◌}
use Rattle.base.specs.Loops.{and_then}
use Rattle.meaning.specs.Sections.{Sheet, Document, document, Entry}
use Rattle.meaning.specs.Fair.{fair}
use Rattle.meaning.specs.Calls.{judged, three_judged}
use Rattle.places.specs.Answer.{passed_on}
use Rattle.places.specs.Bytes.{pair_at, Place}
use Rattle.places.specs.Reached.{reached, reached-twice}
use Rattle.reading.specs.SheetPlaces.{sheet_at}
use Rattle.documents.specs.DocumentSection.{document_place, node_count_at, document_at}
use Rattle.documents.specs.DocumentJudged.{document-judged, NodesStand, document-stands}
use Rattle.subscriptions.specs.declared.Subscriptions.{Subscriptions}
use Rattle.subscriptions.specs.Taken.{subscriptions_of}
use Rattle.subscriptions.specs.Subscribed.{SubscriptionsStand}
use Rattle.tables.specs.declared.Entries.{Entries}
use Rattle.tables.specs.TableSection.{table_at, table_entries}
use Rattle.tables.specs.TableJudged.{EntriesStand}
use Rattle.fairness.specs.FairJudged.{fair_at, fair_place, fair-judged, was_fair, fair-stand}
use Rattle.meaning.specs.declared.Refusal.{Refusal}

-- where all three end: the sheet and the table, 12 last, then the document
unfoldable pub three_place : List ℕ → List ℕ → List ℕ → Place
three_place s t d = and_then (fair_place s t) (λ x. document_place s d)

module _ (s t d : List ℕ) where
  -- what follows is answered by that place
  pub three_judged_lem : {B : Type 0} (refuse : Refusal → B) (next : Sheet → List Entry → Document → B)
      → three_judged refuse next s t d ≡ reached (three_place s t d) refuse (next (sheet_at s) (table_at t) (document_at d))
  unfolding three_judged three_place
  three_judged_lem refuse next =
      fair-judged s t refuse (λ sh es. judged (document sh d) refuse (next sh es))
      ∙ ap (reached (fair_place s t) refuse) (document-judged s d refuse (next (sheet_at s) (table_at t)))
      ∙ reached-twice (fair_place s t) (document_place s d) refuse (next (sheet_at s) (table_at t) (document_at d))

  -- where it was reached, the document's nodes stand
  pub three_nodes : {y at n : ℕ} → three_place s t d ≡ Ok y → at ≡ node_count_at d + 2 → n ≡ pair_at d (node_count_at d) → NodesStand d at n
  unfolding three_place
  three_nodes {y} h a b = document-stands s d y _ _ (passed_on (fair_place s t) _ y h).2 a b

  -- and so do subscriptions and entries
  pub three_stand : {y at n : ℕ} {v : Subscriptions} {w : Entries} → three_place s t d ≡ Ok y → v ≡ subscriptions_of s → w ≡ table_entries t
      → at ≡ node_count_at d + 2 → n ≡ pair_at d (node_count_at d) → SubscriptionsStand s v × EntriesStand t w × NodesStand d at n
  unfolding three_place
  three_stand {y} h e f a b =
      let both = fair-stand s t (passed_on (fair_place s t) _ y h).1 e f in
      (both.0, both.1, three_nodes h a b)

  -- the table is fair
  pub three_fair : {y : ℕ} → three_place s t d ≡ Ok y → fair (sheet_at s).patterns (table_at t) ≡ true
  unfolding three_place fair_at
  three_fair {y} h = was_fair s t (passed_on (fair_place s t) _ y h).1
