-- What follows from covering for the answers about a sheet's subscriptions, whatever its bytes.
use Rattle.std.specs.Prelude.{ℕ, ◌≡◌, refl, Bool, true, false, ◌&&◌, List, Result, Ok, Err}
use Rattle.std.proofs.Common.{ap}
use Rattle.std.proofs.lemmas.Bool.{false≢true}
use Rattle.base.specs.Bools.{and_first, and_second}
use Rattle.base.specs.Choice.{pick}
use Rattle.meaning.specs.Reader.{Reading, read, refused}
use Rattle.meaning.specs.Sections.{Sheet, sheet, Document, document}
use Rattle.meaning.specs.Satisfying.{satisfies}
use Rattle.meaning.specs.Covering.{covers}
use Rattle.meaning.specs.Calls.{judged, is_subscription, subscription, matches_answer, covers_answer}
use Rattle.meaning.specs.Given.{refusal, gives, asked_given}
use Rattle.laws.specs.JudgingGives.{document_rises}
use Rattle.laws.specs.CoversOfCovers.{covers_trans}
use Rattle.laws.specs.Documents.{covering_loses_none}
use Rattle.meaning.specs.declared.Refusal.TheVariants.{NotThere}
use Rattle.meaning.specs.declared.Refusal.{Refusal}

-- ---- what a yes tells

-- a refusal is no yes
refused_no : (n : Refusal) → Err n ≡ Ok true → ⊥
unfolding asked_given refusal gives
refused_no n h = false≢true (ap (λ (a : Result Bool Refusal). (asked_given a).values) h)

-- where the subscriptions asked for exist, and it is so
yes_tells : (there said : Bool) → pick there (Ok said) (Err NotThere) ≡ Ok true → (there ≡ true) × (said ≡ true)
unfolding pick asked_given gives
yes_tells true said h = (refl, ap (λ (a : Result Bool Refusal). (asked_given a).values) h)
yes_tells false said h = absurd (refused_no NotThere h)

-- what is answered of two subscriptions of a sheet
abbrev covered : ℕ → ℕ → Sheet → Result Bool Refusal
covered v w sh = pick (is_subscription sh v && is_subscription sh w) (Ok (covers (subscription sh v) (subscription sh w))) (Err NotThere)

-- and of one, for a document
abbrev matched : Sheet → ℕ → Document → Result Bool Refusal
matched sh v dc = pick (is_subscription sh v) (Ok (satisfies dc.nodes (subscription sh v))) (Err NotThere)

-- ---- covering loses no document: where i covers j, a document that satisfies j satisfies i
pub answers_lose_none : (s d : List ℕ) (i j : ℕ) → covers_answer s i j ≡ Ok true → matches_answer s d j ≡ Ok true
    → matches_answer s d i ≡ Ok true
unfolding covers_answer matches_answer judged pick
answers_lose_none s d i j = go (sheet s)
  where
    beside : (sh : Sheet) (r : Reading Document) → document sh d ≡ r → covered i j sh ≡ Ok true
        → judged r Err (matched sh j) ≡ Ok true → judged r Err (matched sh i) ≡ Ok true
    beside sh (refused n) e c m = absurd (refused_no n m)
    beside sh (read dc rest) e c m =
        let covering = yes_tells _ _ c in
        let satisfying = yes_tells (is_subscription sh j) (satisfies dc.nodes (subscription sh j)) m in
        let rises = document_rises sh d rest dc e in
        rw (
          and_first (is_subscription sh i) (is_subscription sh j) covering.0,
          covering_loses_none dc.nodes (subscription sh i) (subscription sh j) rises covering.1 satisfying.1,
        )

    go : (r : Reading Sheet) → judged r Err (covered i j) ≡ Ok true
        → judged r Err (λ sh. judged (document sh d) Err (matched sh j)) ≡ Ok true
        → judged r Err (λ sh. judged (document sh d) Err (matched sh i)) ≡ Ok true
    go (refused n) c m = absurd (refused_no n c)
    go (read sh left) c m = beside sh (document sh d) refl c m

-- ---- covers of covers are covers: where i covers j and j covers k, i covers k
pub answers_of_covers : (s : List ℕ) (i j k : ℕ) → covers_answer s i j ≡ Ok true → covers_answer s j k ≡ Ok true
    → covers_answer s i k ≡ Ok true
unfolding covers_answer judged pick
answers_of_covers s i j k = go (sheet s)
  where
    go : (r : Reading Sheet) → judged r Err (covered i j) ≡ Ok true → judged r Err (covered j k) ≡ Ok true
        → judged r Err (covered i k) ≡ Ok true
    go (refused n) c e = absurd (refused_no n c)
    go (read sh left) c e =
        let first = yes_tells _ _ c in
        let second = yes_tells _ _ e in
        rw (
          and_first (is_subscription sh i) (is_subscription sh j) first.0,
          and_second (is_subscription sh j) (is_subscription sh k) second.0,
          covers_trans (subscription sh i) (subscription sh j) (subscription sh k) first.1 second.1,
        )
