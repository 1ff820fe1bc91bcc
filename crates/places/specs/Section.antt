-- A section of bytes: a reader at a place, what stands there, and how it is judged by places.
use Rattle.std.specs.Prelude.{ℕ, ◌≤◌, ◌≡◌, List, length, drop, Ok}
use Rattle.std.proofs.Common.{sym, ◌∙◌}
use Rattle.std.proofs.Math.Path.{ap}
use Rattle.meaning.specs.Reader.{read, Reader, number_of}
use Rattle.places.specs.Bytes.{number_at, Place}
use Rattle.places.specs.Answer.{answer, answer-value, answer-place, number_of-answer}

-- the reader r at the place x of s
pub record Section {A : Type 0} (s : List ℕ) (r : Reader A) (x : ℕ) : Type 0 where
  -- what stands there, and the place after it
  pub value : A
  pub after : ℕ
  -- the place that judging reaches, or the number of the first fault
  pub place : Place
  -- so it is read
  pub reads : r (drop x s) ≡ answer s value place
  -- and the place that is reached is the one after it, within the bytes
  pub leads : (y : ℕ) → place ≡ Ok y → y ≡ after
  pub within : (y : ℕ) → x ≤ length s → place ≡ Ok y → y ≤ length s

-- ---- what it tells

module _ {A : Type 0} {s : List ℕ} {r : Reader A} {x : ℕ} (k : Section s r x) where
  -- where a place was reached, the value was read
  pub section-read : (y : ℕ) → k.place ≡ Ok y → r (drop x s) ≡ read k.value (drop y s)
  unfolding answer
  section-read y h = k.reads ∙ ap (answer s k.value) h

  -- what was read is the value, and a place was reached
  pub section_is : (a : A) (left : List ℕ) → r (drop x s) ≡ read a left → (a ≡ k.value) × ((y : ℕ) × (k.place ≡ Ok y))
  section_is a left h =
      let e = sym k.reads ∙ h in
      (answer-value s _ k.place a left e, answer-place s k.value _ a left e)

  -- its number
  pub section-number : number_of (r (drop x s)) ≡ number_at k.place
  section-number = ap number_of k.reads ∙ number_of-answer s k.value k.place

-- ---- the same section in other words

module _ {A : Type 0} {s : List ℕ} where
  -- as it is judged
  abbrev pub judged_as : {r : Reader A} {x : ℕ} (c : Place) (k : Section s r x) → k.place ≡ c → Section s r x
  judged_as c k e = record {
    value = k.value;
    after = k.after;
    place = c;
    reads = k.reads ∙ ap (answer s k.value) e;
    leads = λ y h. k.leads y (e ∙ h);
    within = λ y l h. k.within y l (e ∙ h);
  }

  -- what stands there
  abbrev pub stands_as : {r : Reader A} {x : ℕ} (a : A) (z : ℕ) (k : Section s r x) → k.value ≡ a → k.after ≡ z → Section s r x
  stands_as a z k e f = record {
    value = a;
    after = z;
    place = k.place;
    reads = k.reads ∙ ap (λ (b : A). answer s b k.place) e;
    leads = λ y h. k.leads y h ∙ f;
    within = k.within;
  }

  -- as it is read
  abbrev pub read_as : {r r' : Reader A} {x : ℕ} → r ≡ r' → Section s r x → Section s r' x
  read_as {x = x} e k = record {
    value = k.value;
    after = k.after;
    place = k.place;
    reads = ap (λ (t : Reader A). t (drop x s)) (sym e) ∙ k.reads;
    leads = k.leads;
    within = k.within;
  }
