-- Things that are read one after the other: a section of n of them.
use Prim.Native.Nat.{ℕ, zero, suc, ◌+◌, ◌≤◌}
use Rattle.std.specs.Prelude.{◌≡◌, List, [], ◌∷◌, length, drop, Ok}
use Rattle.std.proofs.Math.Path.{refl, ap}
use Rattle.std.proofs.Common.{◌∙◌}
use Rattle.base.specs.Loops.{run}
use Rattle.base.specs.Standing.{standing, place_after, run-leads, run_keeps}
use Rattle.meaning.specs.Reader.{Reader, go_on, ◌>>=◌, give, repeat}
use Rattle.places.specs.Answer.{answer, then_answer, then_give}
use Rattle.places.specs.Section.{Section}
use Rattle.places.specs.Bytes.{Place}

-- ---- one after the other, each judged beside what is told of those before it

-- `many` reads n things, each by `one`, and what is told then is kept by `keep`; `Told i x t` is "t is told of the i things before x"
module _ {A S : Type 0} (s : List ℕ) (many : ℕ → S → Reader (List A)) (one : S → Reader A) (keep : S → A → S)
    (none : (t : S) → many 0 t ≡ give [])
    (more : (n : ℕ) (t : S) → many (suc n) t ≡ ◌>>=◌ (one t) (λ a. ◌>>=◌ (many n (keep t a)) (λ later. give (a ∷ later))))
    (here : ℕ → A) (next : ℕ → ℕ) (f : ℕ → ℕ → Place) (Told : ℕ → ℕ → S → Type 0)
    (reads : (i x : ℕ) (t : S) → Told i x t → one t (drop x s) ≡ answer s (here x) (f i x))
    (leads : (i x y : ℕ) → f i x ≡ Ok y → y ≡ next x)
    (inside : (i x y : ℕ) → x ≤ length s → f i x ≡ Ok y → y ≤ length s)
    (told : (i x y : ℕ) (t : S) → Told i x t → f i x ≡ Ok y → Told (i + 1) y (keep t (here x))) where
  pub in_turn_lem : (n i x : ℕ) (t : S) → Told i x t → many n t (drop x s) ≡ answer s (standing here next x n) (run f n i x)
  unfolding standing run ◌>>=◌ give answer
  in_turn_lem zero i x t h = ap (λ (r : Reader (List A)). r (drop x s)) (none t)
  in_turn_lem (suc n) i x t h =
      ap (λ (r : Reader (List A)). r (drop x s)) (more n t)
      ∙ rw (reads i x t h) (then_answer s (here x) _ (f i x) _ (run f n (i + 1))
      (λ y e. turn y (leads i x y e) (in_turn_lem n (i + 1) y (keep t (here x)) (told i x y t h e))))
    where
      turn : (y : ℕ) → y ≡ next x → many n (keep t (here x)) (drop y s) ≡ answer s (standing here next y n) (run f n (i + 1) y)
          → go_on (many n (keep t (here x)) (drop y s)) (λ later. give (here x ∷ later)) ≡ answer s (standing here next x (suc n)) (run f n (i + 1) y)
      turn y e later =
          rw later (then_give s (standing here next y n) (run f n (i + 1) y) (λ l. here x ∷ l)
          ∙ ap (λ (q : ℕ). answer s (here x ∷ standing here next q n) (run f n (i + 1) y)) e)

  -- n of them from a place on, before which nothing is told but t
  abbrev pub in_turn : (n x : ℕ) (t : S) → Told 0 x t → Section s (many n t) x
  in_turn n x t h = record {
    value = standing here next x n;
    after = place_after next x n;
    place = run f n 0 x;
    reads = in_turn_lem n 0 x t h;
    leads = λ y e. run-leads f next leads n 0 x y e;
    within = λ y l e. run_keeps f (λ z. z ≤ length s) inside n 0 x y l e;
  }

-- ---- sections of one kind, one after the other

module _ {A : Type 0} (r : Reader A) where
  pub repeat_none : repeat 0 r ≡ give []
  unfolding repeat
  repeat_none = refl

  pub repeat_more : (n : ℕ) → repeat (suc n) r ≡ ◌>>=◌ r (λ a. ◌>>=◌ (repeat n r) (λ later. give (a ∷ later)))
  unfolding repeat
  repeat_more n = refl

module _ {A : Type 0} {s : List ℕ} {r : Reader A} (k : (x : ℕ) → Section s r x) where
  -- the i-th is judged like any other
  abbrev pub each_place : ℕ → ℕ → Place
  each_place i x = (k x).place

  -- n of them
  abbrev pub repeated : (n x : ℕ) → Section s (repeat n r) x
  repeated n x =
      in_turn s (λ m t. repeat m r) (λ t. r) (λ t a. t) (λ t. repeat_none r) (λ m t. repeat_more r m)
      (λ y. (k y).value) (λ y. (k y).after) each_place (λ i y t. Unit {0})
      (λ i y t h. (k y).reads) (λ i y. (k y).leads) (λ i y. (k y).within) (λ i y z t h e. tt) n x (tt {0}) tt
