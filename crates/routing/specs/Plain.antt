-- The plain route, one subscription after the other; and one subscription asked by its number.
use Rattle.std.specs.Prelude.{ℕ, suc, ◌+◌, ◌≤◌, ◌<◌, ◌≡◌, Bool, ltb, get_or, take, Result, Ok, Err}
use Rattle.std.proofs.Math.Path.{refl, ap}
use Rattle.std.proofs.Common.{sym, ◌∙◌, arith, add-one, lt-ltb, le-ltb, take-suc, take_all}
use mathlib.Core.List.{List, [], ◌∷◌, ◌++◌, map, map-append}
use Rattle.std.proofs.Math.ListN.{length, length-map}
use Rattle.std.proofs.Math.Seq.{length-take-le}
use Rattle.base.specs.Choice.{pick, pick_true, pick_false}
use Rattle.meaning.specs.Forest.{Forest, none}
use Rattle.meaning.specs.Sections.{Node, Sheet}
use Rattle.meaning.specs.Satisfying.{satisfies}
use Rattle.meaning.specs.Routing.{delivery_set, plain_route}
use Rattle.meaning.specs.Calls.{is_subscription, subscription}
use Rattle.laws.specs.Marks.{marked, delivery_last}
use Rattle.reading.specs.SheetPlaces.{sheet_at}
use Rattle.subscriptions.specs.declared.Subscriptions.{Subscriptions}
use Rattle.subscriptions.specs.Subscribed.{SubscriptionsStand}
use Rattle.meaning.specs.declared.Refusal.TheVariants.{NotThere}
use Rattle.meaning.specs.declared.Refusal.{Refusal}

module _ (ns : List Node) (ps : List Forest) where
  -- the delivery set of the first i subscriptions
  unfoldable pub first_delivered : ℕ → ℕ
  first_delivered i = delivery_set (map (satisfies ns) (take i ps))

  -- nothing of none
  none_delivered : 0 ≡ first_delivered 0
  unfolding first_delivered delivery_set
  none_delivered = refl

  -- one more is marked where it matches
  next-delivered : (i set : ℕ) (said : Bool) → i < length ps → said ≡ satisfies ns (get_or ps i none) → set ≡ first_delivered i
      → marked set i said ≡ first_delivered (i + 1)
  unfolding first_delivered
  next-delivered i set said h e f =
      let first = map (satisfies ns) (take i ps) in
      let long : length first ≡ i = length-map (take i ps) (satisfies ns) ∙ length-take-le i ps (omega arith) in
      let more : map (satisfies ns) (take (suc i) ps) ≡ first ++ (satisfies ns (get_or ps i none) ∷ []) =
      ap (map (satisfies ns)) (take-suc ps i none h) ∙ map-append (satisfies ns) (take i ps) (get_or ps i none ∷ []) in
      rw (add-one i, f, e, more) (sym (rw long at (delivery_last first (satisfies ns (get_or ps i none)))))

  -- all of them are the plain route
  all_delivered : (i set : ℕ) → length ps ≤ i → set ≡ first_delivered i → set ≡ plain_route ns ps
  unfolding first_delivered plain_route
  all_delivered i set h f = f ∙ ap (λ (l : List Forest). delivery_set (map (satisfies ns) l)) (take_all i ps h)

-- the first i subscriptions of a sheet are asked, and the set is theirs
pub record Delivering (ns : List Node) (s : List ℕ) (v : Subscriptions) (i set : ℕ) : Type 0 where
  pub stand : SubscriptionsStand s v
  pub so_far : set ≡ first_delivered ns (sheet_at s).patterns i

module _ {ns : List Node} {s : List ℕ} {v : Subscriptions} where
  -- none is asked
  pub delivery_starts : SubscriptionsStand s v → Delivering ns s v 0 0
  delivery_starts stand = record { stand = stand; so_far = none_delivered ns (sheet_at s).patterns }

  module _ {i set : ℕ} (turn : Delivering ns s v i set) where
    -- the next subscription is asked, and marked
    pub delivery_goes_on : i < v.count → {said : Bool} {more : ℕ} → said ≡ satisfies ns (get_or (sheet_at s).patterns i none)
        → more ≡ marked set i said → Delivering ns s v (i + 1) more
    delivery_goes_on h asked marks =
        let next = next-delivered ns (sheet_at s).patterns i set _ (omega (arith, turn.stand.counted)) asked turn.so_far in
        record { stand = turn.stand; so_far = marks ∙ next }

    -- all are asked
    pub delivery_ends : v.count ≤ i → set ≡ plain_route ns (sheet_at s).patterns
    delivery_ends h = all_delivered ns (sheet_at s).patterns i set (omega (arith, turn.stand.counted)) turn.so_far

-- one subscription of a sheet asked by its number
unfoldable pub numbered_answer : List Node → Sheet → ℕ → Result Bool Refusal
numbered_answer ns sh i = pick (is_subscription sh i) (Ok (satisfies ns (subscription sh i))) (Err NotThere)

module _ (ns : List Node) {s : List ℕ} {v : Subscriptions} (stand : SubscriptionsStand s v) (i : ℕ) where
  -- there is such a subscription, and it is asked
  pub answer_there : {said : Bool} → i < v.count → said ≡ satisfies ns (get_or (sheet_at s).patterns i none)
      → Ok said ≡ numbered_answer ns (sheet_at s) i
  unfolding numbered_answer is_subscription subscription
  answer_there h e =
      pick_true _ _ _ (ltb i (length (sheet_at s).patterns)) (lt-ltb i _ (omega (arith, stand.counted)))
      (ap Ok e)

  -- there is none
  pub answer-not_there : v.count ≤ i → Err NotThere ≡ numbered_answer ns (sheet_at s) i
  unfolding numbered_answer is_subscription
  answer-not_there h = pick_false _ _ _ (ltb i (length (sheet_at s).patterns)) (le-ltb i _ (omega (arith, stand.counted))) refl
