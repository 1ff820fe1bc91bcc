-- What the calls say of a sheet that was judged; and each answer, from the place where judging the sheet ended.
use Rattle.std.specs.Prelude.{ℕ, ◌≤◌, ◌<◌, ◌≡◌, Bool, ◌&&◌, List, Result, Ok, Err}
use Rattle.std.proofs.Math.Path.{refl}
use Rattle.std.proofs.Common.{ap, ap₂, ◌∙◌}
use Rattle.std.proofs.Math.Bool.{true, false}
use Rattle.base.specs.Bools.{and_both}
use Rattle.base.specs.Choice.{pick, pick_true, pick_false}
use Rattle.meaning.specs.Forest.{Forest}
use Rattle.meaning.specs.Sections.{Sheet}
use Rattle.meaning.specs.Covering.{covers}
use Rattle.meaning.specs.Merging.{merge}
use Rattle.meaning.specs.Building.{Table, build}
use Rattle.meaning.specs.Written.{pattern_bytes, table_bytes}
use Rattle.meaning.specs.Calls.{is_subscription, subscription, covers_answer, Writing, refuses, writes, merge_writing, build_writing}
use Rattle.shapes.specs.Shapes.{pattern_of}
use Rattle.shapes.specs.declared.Pattern.{Pattern}
use Rattle.reading.specs.SheetPlaces.{sheet_at}
use Rattle.reading.specs.SheetSection.{sheet_place}
use Rattle.reading.specs.SheetJudged.{sheet-said, sheet-refused}
use Rattle.subscriptions.specs.declared.Subscriptions.{Subscriptions}
use Rattle.subscriptions.specs.Subscribed.{SubscriptionsStand, number_subscribed, number_unsubscribed}
use Rattle.meaning.specs.declared.Refusal.TheVariants.{NotThere}
use Rattle.meaning.specs.declared.Refusal.{Refusal}

-- both numbers are those of subscriptions
unfoldable pub both_there : Sheet → ℕ → ℕ → Bool
both_there sh i j = is_subscription sh i && is_subscription sh j

-- whether i covers j
unfoldable pub covers_says : Sheet → ℕ → ℕ → Result Bool Refusal
covers_says sh i j = pick (both_there sh i j) (Ok (covers (subscription sh i) (subscription sh j))) (Err NotThere)

-- a merge with its mark
unfoldable pub marked_says : Forest → Bool → Writing Bool
marked_says p clipped = writes clipped (pattern_bytes p)

-- the merge of i with j
unfoldable pub merge_says : Sheet → ℕ → ℕ → Writing Bool
merge_says sh i j =
    pick (both_there sh i j)
    (marked_says (merge (subscription sh i) (subscription sh j)).pattern (merge (subscription sh i) (subscription sh j)).clipped)
    (refuses NotThere)

-- a table with its rounds
unfoldable pub table_says : Table → Writing ℕ
table_says t = writes t.rounds (table_bytes t.entries)

-- the table built for a limit
unfoldable pub build_says : Sheet → ℕ → Writing ℕ
build_says sh limit = table_says (build limit sh.patterns)

-- ---- the two numbers

module _ (sh : Sheet) (i j : ℕ) where
  -- each is that of a subscription
  pub both_asked : is_subscription sh i ≡ true → is_subscription sh j ≡ true → both_there sh i j ≡ true
  unfolding both_there
  both_asked h k = and_both _ _ h k

  -- one is not
  pub first_unasked : is_subscription sh i ≡ false → both_there sh i j ≡ false
  unfolding both_there
  first_unasked h = rw h

  pub second_unasked : is_subscription sh j ≡ false → both_there sh i j ≡ false
  unfolding both_there
  second_unasked h = rw h (no_second (is_subscription sh i))
    where
      no_second : (b : Bool) → (b && false) ≡ false
      no_second true = refl
      no_second false = refl

module _ {s : List ℕ} {v : Subscriptions} (stand : SubscriptionsStand s v) (i j : ℕ) where
  -- below the count of subscriptions both are there
  pub both_there_lem : i < v.count → j < v.count → both_there (sheet_at s) i j ≡ true
  both_there_lem h k = both_asked _ i j (number_subscribed stand i h) (number_subscribed stand j k)

  -- from that count on one is not
  pub first-not_there : v.count ≤ i → both_there (sheet_at s) i j ≡ false
  first-not_there h = first_unasked _ i j (number_unsubscribed stand i h)

  pub second-not_there : v.count ≤ j → both_there (sheet_at s) i j ≡ false
  second-not_there h = second_unasked _ i j (number_unsubscribed stand j h)

-- where both are there, one covers the other or not
pub covers_there : (sh : Sheet) (i j : ℕ) (p q : Pattern) (said : Bool) → both_there sh i j ≡ true → pattern_of p ≡ subscription sh i
    → pattern_of q ≡ subscription sh j
    → said ≡ covers (pattern_of p) (pattern_of q) → Ok said ≡ covers_says sh i j
unfolding covers_says
covers_there sh i j p q said there e f is = pick_true _ _ _ (both_there sh i j) there (ap Ok (is ∙ ap₂ covers e f))

-- where one is not there, it is refused
pub covers-not_there : (sh : Sheet) (i j : ℕ) → both_there sh i j ≡ false → Err NotThere ≡ covers_says sh i j
unfolding covers_says
covers-not_there sh i j there = pick_false _ _ _ (both_there sh i j) there refl

-- ---- each call, from the place where judging the sheet ended: where the sheet is sound, and where it is refused

module _ (s : List ℕ) where
  module _ (i j : ℕ) where
    -- whether i covers j
    pub covers-said : (y : ℕ) → sheet_place s ≡ Ok y → covers_says (sheet_at s) i j ≡ covers_answer s i j
    unfolding covers_answer covers_says both_there
    covers-said = sheet-said s Err (λ sh. covers_says sh i j)

    pub covers-refused : (n : Refusal) → sheet_place s ≡ Err n → Err n ≡ covers_answer s i j
    unfolding covers_answer covers_says both_there
    covers-refused = sheet-refused s Err (λ sh. covers_says sh i j)

    -- the merge of i with j
    pub merge-said : (y : ℕ) → sheet_place s ≡ Ok y → merge_says (sheet_at s) i j ≡ merge_writing s i j
    unfolding merge_writing merge_says marked_says both_there
    merge-said = sheet-said s refuses (λ sh. merge_says sh i j)

    pub merge-refused : (n : Refusal) → sheet_place s ≡ Err n → refuses n ≡ merge_writing s i j
    unfolding merge_writing merge_says marked_says both_there
    merge-refused = sheet-refused s refuses (λ sh. merge_says sh i j)

  module _ (limit : ℕ) where
    -- the table for a limit
    pub build-said : (y : ℕ) → sheet_place s ≡ Ok y → build_says (sheet_at s) limit ≡ build_writing s limit
    unfolding build_writing build_says table_says
    build-said = sheet-said s refuses (λ sh. build_says sh limit)

    pub build-refused : (n : Refusal) → sheet_place s ≡ Err n → refuses n ≡ build_writing s limit
    unfolding build_writing build_says table_says
    build-refused = sheet-refused s refuses (λ sh. build_says sh limit)
