-- What follows a section that was judged: the refusal, or what is made of the value where a place was reached.
use Rattle.std.specs.Prelude.{ℕ, ◌≡◌, List, drop, Ok, Err}
use Rattle.std.proofs.Math.Path.{refl, ap}
use Rattle.std.proofs.Common.{sym, ◌∙◌}
use Rattle.base.specs.Loops.{and_then}
use Rattle.meaning.specs.Reader.{Reader}
use Rattle.meaning.specs.Calls.{judged}
use Rattle.places.specs.Bytes.{number_at, Place}
use Rattle.places.specs.Answer.{answer}
use Rattle.places.specs.Section.{Section}
use Rattle.meaning.specs.declared.Refusal.{Refusal}
use Rattle.meaning.specs.Numbers.{refusal_number}

module _ {B : Type 0} where
  -- the refusal, or the value where a place was reached
  unfoldable pub reached : Place → (Refusal → B) → B → B
  reached (Ok x) refuse v = v
  reached (Err n) refuse v = refuse n

  judged-answer : {A : Type 0} (s : List ℕ) (a : A) (c : Place) (refuse : Refusal → B) (next : A → B) → judged (answer s a c) refuse next ≡ reached c refuse (next a)
  unfolding judged answer reached
  judged-answer s a (Ok x) refuse next = refl
  judged-answer s a (Err n) refuse next = refl

  -- a section is answered by its place
  pub section-judged : {A : Type 0} {s : List ℕ} {r : Reader A} {x : ℕ} (k : Section s r x) (refuse : Refusal → B) (next : A → B)
      → judged (r (drop x s)) refuse next ≡ reached k.place refuse (next k.value)
  section-judged {s = s} k refuse next = rw k.reads (judged-answer s k.value k.place refuse next)

  -- one judged first, then the other
  pub reached-twice : (c e : Place) (refuse : Refusal → B) (v : B) → reached c refuse (reached e refuse v) ≡ reached (and_then c (λ x. e)) refuse v
  unfolding reached and_then
  reached-twice (Ok x) e refuse v = refl
  reached-twice (Err n) e refuse v = refl

  -- by the place that was reached, or by the fault
  pub was_reached : (c : Place) (x : ℕ) (refuse : Refusal → B) (v : B) → c ≡ Ok x → reached c refuse v ≡ v
  unfolding reached
  was_reached c x refuse v h = ap (λ (e : Place). reached e refuse v) h

  pub was_refused : (c : Place) (n : Refusal) (refuse : Refusal → B) (v : B) → c ≡ Err n → reached c refuse v ≡ refuse n
  unfolding reached
  was_refused c n refuse v h = ap (λ (e : Place). reached e refuse v) h

-- the number of a place is a refusal, or 0
pub number-reached : (c : Place) → reached c refusal_number 0 ≡ number_at c
unfolding reached number_at
number-reached (Ok x) = refl
number-reached (Err n) = refl

-- one section first, then another whose number is that of a place
pub number-after : {A : Type 0} {s : List ℕ} {r : Reader A} {x : ℕ} (k : Section s r x) (next : A → ℕ) (c : Place) → next k.value ≡ number_at c
    → judged (r (drop x s)) refusal_number next ≡ number_at (and_then k.place (λ y. c))
number-after k next c h =
    section-judged k refusal_number next
    ∙ ap (reached k.place refusal_number) (h ∙ sym (number-reached c))
    ∙ reached-twice k.place c refusal_number 0
    ∙ number-reached (and_then k.place (λ y. c))
