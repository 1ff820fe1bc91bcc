-- The fields of a section, in the order of its reader: each is one line more of the section, and what stands there, how it is
-- judged and that this is how it is read come of it.
use Rattle.std.specs.Prelude.{ℕ, ◌+◌, ◌-◌, ◌≤◌, ◌≡◌, Bool, true, not, ◌&&◌, ◌||◌, List, leb, ltb, length, get_or, take, drop, Ok, Err}
use Rattle.std.proofs.Math.Path.{refl, ap}
use Rattle.std.proofs.Common.{◌∙◌, arith, ltb-true, leb-true}
use Rattle.base.specs.Choice.{pick}
use Rattle.base.specs.Loops.{and_then}
use Rattle.meaning.specs.Reader.{refused, Reader, ◌>>=◌, ◌>>◌, unless, byte, bytes, end, give, number}
use Rattle.places.specs.Bytes.{pair_at, end_place, Place}
use Rattle.places.specs.Answer.{answer, answer-pick, then_answer, then_give, then_byte, then_unless, then_bytes, then_end}
use Rattle.places.specs.Answer.{passed, passed_on, pick_both, pick-either, pick_not}
use Rattle.places.specs.NumberRead.{number_in, then_number, then_pair}
use Rattle.places.specs.Section.{Section, judged_as}
use Rattle.meaning.specs.declared.Refusal.TheVariants.{EndsEarly, BytesRemain}
use Rattle.meaning.specs.declared.Refusal.{Refusal}

-- ---- one field, and what follows it

module _ {A : Type 0} (s : List ℕ) where
  pub guard_reads : (a : A) (b : Bool) (n : Refusal) (c : Place) → pick b (answer s a c) (refused n) ≡ answer s a (pick b c (Err n))
  unfolding answer
  guard_reads a b n c = rw (answer-pick s a b c (Err n))

  pub given-reads : (a : A) (x : ℕ) → give a (drop x s) ≡ answer s a (Ok x)
  unfolding give answer
  given-reads a x = refl

-- within the bytes
module _ (s : List ℕ) (x : ℕ) where
  pub end-judged : pick (leb (length s) x) (Ok x) (Err BytesRemain) ≡ end_place s x
  unfolding end_place
  end-judged = refl

  pub inside_one : ltb x (length s) ≡ true → x + 1 ≤ length s
  inside_one e = omega (arith, ltb-true x (length s) e)

  pub inside-two : ltb (x + 1) (length s) ≡ true → x + 2 ≤ length s
  inside-two e = omega (arith, ltb-true (x + 1) (length s) e)

  pub inside_more : (n : ℕ) → leb n (length s - x) ≡ true → x ≤ length s → x + n ≤ length s
  inside_more n e h = omega (arith, leb-true n (length s - x) e)

pub same_place : (x y : ℕ) → ◌≡◌ {A = Place} (Ok x) (Ok y) → y ≡ x
same_place x y e = cc

module _ {A : Type 0} {s : List ℕ} where
  -- a test before a section: the fault n where it fails
  abbrev pub guarded : {r next : Reader A} {x z : ℕ} (b : Bool) (n : Refusal) (k : Section s next z)
      → r (drop x s) ≡ pick b (next (drop z s)) (refused n) → (b ≡ true → x ≤ length s → z ≤ length s) → Section s r x
  guarded b n k e inside = record {
    value = k.value;
    after = k.after;
    place = pick b k.place (Err n);
    reads = e ∙ ap (λ m. pick b m (refused n)) k.reads ∙ guard_reads s k.value b n k.place;
    leads = λ y h. k.leads y (passed b k.place n y h).1;
    within = λ y l h. k.within y (inside (passed b k.place n y h).0 l) (passed b k.place n y h).1;
  }

module _ {A : Type 0} {s : List ℕ} {x : ℕ} where
  -- nothing more is read
  abbrev pub given : (a : A) → Section s (give a) x
  given a = record {
    value = a;
    after = x;
    place = Ok x;
    reads = given-reads s a x;
    leads = same_place x;
    within = λ y h e. rw (same_place x y e) h;
  }

  -- the end
  abbrev pub end_then : (a : A) → Section s (◌>>◌ end (give a)) x
  end_then a = judged_as (end_place s x) (guarded (leb (length s) x) BytesRemain (given a) (then_end s x (give a)) (λ e h. h)) (end-judged s x)

  -- a byte
  abbrev pub byte_then : {next : ℕ → Reader A} → ((v : ℕ) → Section s (next v) (x + 1)) → Section s (◌>>=◌ byte next) x
  byte_then {next = next} f = guarded (ltb x (length s)) EndsEarly (f (get_or s x 0)) (then_byte s x next) (λ e h. inside_one s x e)

  -- n bytes
  abbrev pub bytes_then : (n : ℕ) {next : List ℕ → Reader A} → ((t : List ℕ) → Section s (next t) (x + n)) → Section s (◌>>=◌ (bytes n) next) x
  bytes_then n {next = next} f = guarded (leb n (length s - x)) EndsEarly (f (take n (drop x s))) (then_bytes s n x next) (λ e h. inside_more s x n e h)

  -- a number of n bytes
  abbrev pub number_then : (n : ℕ) {next : ℕ → Reader A} → ((v : ℕ) → Section s (next v) (x + n)) → Section s (◌>>=◌ (number n) next) x
  number_then n {next = next} f = guarded (leb n (length s - x)) EndsEarly (f (number_in s x n)) (then_number s n x next) (λ e h. inside_more s x n e h)

  -- of two bytes, each of which is looked for
  abbrev pub pair_then : {next : ℕ → Reader A} → ((v : ℕ) → Section s (next v) (x + 2)) → Section s (◌>>=◌ (number 2) next) x
  pair_then {next = next} f =
      guarded (ltb x (length s)) EndsEarly
      (guarded {r = λ l. pick (ltb (x + 1) (length s)) (next (pair_at s x) (drop (x + 2) s)) (refused EndsEarly)} {x = x}
      (ltb (x + 1) (length s)) EndsEarly (f (pair_at s x)) refl (λ e h. inside-two s x e))
      (then_pair s x next) (λ e h. h)

  -- a test
  abbrev pub unless_then : (n : Refusal) (b : Bool) {next : Reader A} → Section s next x → Section s (◌>>◌ (unless n b) next) x
  unless_then n b {next = next} k = guarded b n k (then_unless s n b (drop x s) next) (λ e h. h)

  -- a test in other words
  abbrev pub unless_as : (n : Refusal) {c : Bool} (b : Bool) → c ≡ b → {next : Reader A} → Section s next x → Section s (◌>>◌ (unless n c) next) x
  unless_as n {c = c} b e k = judged_as (pick b k.place (Err n)) (unless_then n c k) (ap (λ (t : Bool). pick t k.place (Err n)) e)

  -- a test of two parts, one after the other
  abbrev pub unless_both : (n : Refusal) (a b : Bool) {next : Reader A} → Section s next x → Section s (◌>>◌ (unless n (a && b)) next) x
  unless_both n a b k = judged_as (pick a (pick b k.place (Err n)) (Err n)) (unless_then n (a && b) k) (pick_both a b k.place (Err n))

  -- a test that must fail
  abbrev pub unless_not : (n : Refusal) (b : Bool) {next : Reader A} → Section s next x → Section s (◌>>◌ (unless n (not b)) next) x
  unless_not n b k = judged_as (pick b (Err n) k.place) (unless_then n (not b) k) (pick_not b k.place (Err n))

  -- two tests that must fail, one after the other
  abbrev pub unless_either : (n : Refusal) {c : Bool} (a b : Bool) → c ≡ (a || b) → {next : Reader A} → Section s next x
      → Section s (◌>>◌ (unless n (not c)) next) x
  unless_either n {c = c} a b e k =
      judged_as (pick a (Err n) (pick b (Err n) k.place)) (unless_not n c k) (rw e (pick-either a b (Err n) k.place))

-- ---- a section, and what follows it

module _ {A B : Type 0} {s : List ℕ} {x : ℕ} {r : Reader A} (k : Section s r x) where
  pub change_reads : (f : A → B) → ◌>>=◌ r (λ a. give (f a)) (drop x s) ≡ answer s (f k.value) k.place
  unfolding ◌>>=◌
  change_reads f = rw k.reads (then_give s k.value k.place f)

  module _ (next : A → Reader B) (f : (y : ℕ) → Section s (next k.value) y) where
    pub next-reads : ◌>>=◌ r next (drop x s) ≡ answer s (f k.after).value (and_then k.place (λ y. (f y).place))
    unfolding ◌>>=◌
    next-reads = rw k.reads (then_answer s k.value (f k.after).value k.place next (λ y. (f y).place) (λ y e. on y (k.leads y e)))
      where
        on : (y : ℕ) → y ≡ k.after → next k.value (drop y s) ≡ answer s (f k.after).value (f y).place
        on y e = (f y).reads ∙ ap (λ (z : ℕ). answer s (f z).value (f y).place) e

    pub next-leads : (y : ℕ) → and_then k.place (λ z. (f z).place) ≡ Ok y → y ≡ (f k.after).after
    next-leads y h =
        let p = passed_on k.place (λ z. (f z).place) y h in
        (f p.0).leads y p.2 ∙ ap (λ (w : ℕ). (f w).after) (k.leads p.0 p.1)

    pub next-within : (y : ℕ) → x ≤ length s → and_then k.place (λ z. (f z).place) ≡ Ok y → y ≤ length s
    next-within y l h =
        let p = passed_on k.place (λ z. (f z).place) y h in
        (f p.0).within y (k.within p.0 l p.1) p.2

module _ {A B : Type 0} {s : List ℕ} {x : ℕ} {r : Reader A} where
  -- the value is changed, and nothing more is read
  abbrev pub then_given : (f : A → B) (k : Section s r x) → Section s (◌>>=◌ r (λ a. give (f a))) x
  then_given f k = record { value = f k.value; after = k.after; place = k.place; reads = change_reads k f; leads = k.leads; within = k.within }

  -- another section, from the place that was reached
  abbrev pub section_then : (next : A → Reader B) (k : Section s r x) → ((y : ℕ) → Section s (next k.value) y) → Section s (◌>>=◌ r next) x
  section_then next k f = record {
    value = (f k.after).value;
    after = (f k.after).after;
    place = and_then k.place (λ y. (f y).place);
    reads = next-reads k next f;
    leads = next-leads k next f;
    within = next-within k next f;
  }
