-- What follows from sheet, table and document that were judged, taken further: there the table is fair, and the parents of the
-- document's nodes come before them.
use Rattle.std.specs.Prelude.{ℕ, ◌≡◌, refl}
use Rattle.std.proofs.Math.Bool.{true}
use mathlib.Core.List.{List}
use Rattle.meaning.specs.Reader.{Reading, read, refused}
use Rattle.meaning.specs.Sections.{Sheet, sheet, Document, document, Entry}
use Rattle.meaning.specs.Satisfying.{parents_of}
use Rattle.meaning.specs.Fair.{fair}
use Rattle.meaning.specs.Calls.{judged, fair_table, three_judged}
use Rattle.laws.specs.Rising.{Rising}
use Rattle.laws.specs.JudgingGives.{document_rises}
use Rattle.laws.specs.Routes.{fair_table-fair}
use Rattle.meaning.specs.declared.Refusal.{Refusal}

module _ {B C : Type 0} (f : B → C) {refuse : Refusal → B} {refuse' : Refusal → C}
    {next : Sheet → List Entry → Document → B} {next' : Sheet → List Entry → Document → C}
    (refuses : (n : Refusal) → f (refuse n) ≡ refuse' n)
    (follows : (sh : Sheet) (es : List Entry) (dc : Document) → fair sh.patterns es ≡ true → Rising (parents_of dc.nodes)
    → f (next sh es dc) ≡ next' sh es dc)
    (s t d : List ℕ) where
  pub three_map : f (three_judged refuse next s t d) ≡ three_judged refuse' next' s t d
  unfolding three_judged judged
  three_map = by_sheet (sheet s)
    where
      by_document : (sh : Sheet) (es : List Entry) → fair sh.patterns es ≡ true → (m : Reading Document) → document sh d ≡ m
          → f (judged m refuse (next sh es)) ≡ judged m refuse' (next' sh es)
      by_document sh es just (read dc left) e = follows sh es dc just (document_rises sh d left dc e)
      by_document sh es just (refused n) e = refuses n

      by_table_lem : (sh : Sheet) (m : Reading (List Entry)) → fair_table sh t ≡ m
          → f (judged m refuse (λ es. judged (document sh d) refuse (next sh es))) ≡ judged m refuse' (λ es. judged (document sh d) refuse' (next' sh es))
      by_table_lem sh (read es left) e = by_document sh es (fair_table-fair sh t left es e) (document sh d) refl
      by_table_lem sh (refused n) e = refuses n

      by_sheet : (m : Reading Sheet)
          → f (judged m refuse (λ sh. judged (fair_table sh t) refuse (λ es. judged (document sh d) refuse (next sh es))))
          ≡ judged m refuse' (λ sh. judged (fair_table sh t) refuse' (λ es. judged (document sh d) refuse' (next' sh es)))
      by_sheet (read sh left) = by_table_lem sh (fair_table sh t) refl
      by_sheet (refused n) = refuses n
