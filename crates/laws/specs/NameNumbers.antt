-- The names of a line and the numbers of a sheet's labels: what a number is called, and which number a name has.
use Prim.Native.Nat.{ℕ, zero, suc, ◌+◌, ◌≤◌, ◌<◌}
use Rattle.std.specs.Prelude.{◌≡◌, Bool, true, false, ◌||◌, length, get_or}
use Rattle.std.proofs.Math.Path.{refl}
use Rattle.std.proofs.Common.{sym, ap, ◌∙◌}
use Rattle.std.proofs.lemmas.Bool.{false≢true}
use mathlib.Core.List.{List, [], ◌∷◌}
use native.Mathlib.Omega.{arith}
use Rattle.base.specs.Apart.{is_false}
use Rattle.base.specs.Choice.{pick}
use Rattle.base.specs.Lists.{some}
use Rattle.base.specs.ListLaws.{some_of}
use Rattle.base.specs.Replacing.{place_in}
use Rattle.meaning.specs.Sections.{same_label}
use Rattle.meaning.specs.LabelBytes.{label_at}
use Rattle.meaning.specs.Notation.{Name, any, called}
use Rattle.meaning.specs.LineCalls.{number_from, name_number, is_known}
use Rattle.laws.specs.Labels.{same_bytes, bytes_same, Distinct}

-- what a label number is called
unfoldable pub name_of : List (List ℕ) → ℕ → Name
name_of ls zero = any
name_of ls (suc l) = called (label_at ls (suc l))

-- ---- a number is one of the sheet's labels

-- no label has a number beyond the last
number-low : (k : ℕ) (ls : List (List ℕ)) (l : List ℕ) → number_from (suc k) ls l ≤ k + length ls
unfolding number_from pick
number-low k [] l = omega arith
number-low k (x ∷ ls) l = go (same_label l x) (number-low (suc k) ls l)
  where
    go : (b : Bool) → number_from (suc (suc k)) ls l ≤ suc k + length ls → pick b (suc k) (number_from (suc (suc k)) ls l) ≤ k + length (x ∷ ls)
    go true h = omega arith
    go false h = omega arith

-- so neither has a name
pub name-low : (ls : List (List ℕ)) (n : Name) → name_number ls n ≤ length ls
unfolding name_number
name-low ls any = omega arith
name-low ls (called l) = omega (arith, number-low 0 ls l)

-- ---- from a number to its name and back

-- where no label occurs twice, the number of a label is its place
number-back : (k : ℕ) (ls : List (List ℕ)) (n : ℕ) → Distinct ls → n < length ls → number_from k ls (get_or ls n []) ≡ k + n
unfolding number_from pick
number-back k [] n apart h = absurd (omega arith)
number-back k (x ∷ ls) zero apart h = rw (bytes_same x) (omega arith)
number-back k (x ∷ ls) (suc n) apart h =
    let other : same_label (get_or ls n []) x ≡ false = is_false _ (λ e. apart 0 (suc n) (omega arith) h (sym (same_bytes _ x e))) in
    rw other (number-back (suc k) ls n (λ i j l m. apart (suc i) (suc j) (omega arith) (omega arith)) (omega arith) ∙ omega arith)

module _ (ls : List (List ℕ)) where
  -- so what a label number is called has that number
  pub name_back : (l : ℕ) → Distinct ls → l ≤ length ls → name_number ls (name_of ls l) ≡ l
  unfolding name_number name_of label_at
  name_back zero apart h = refl
  name_back (suc l) apart h = number-back 1 ls l apart (omega arith) ∙ omega arith

  -- and it is known
  pub name-known : (l : ℕ) → l ≤ length ls → is_known ls (name_of ls l) ≡ true
  unfolding is_known name_of label_at
  name-known zero h = refl
  name-known (suc l) h = some_of (same_label (get_or ls l [])) (place_in ls l [] (omega arith)) (bytes_same (get_or ls l []))

-- ---- from a label to its number and back

-- a label that is there stands at some place, and that is its number
label_there : (ls : List (List ℕ)) (l : List ℕ) (k : ℕ) → some (same_label l) ls ≡ true → (j : ℕ) × (number_from k ls l ≡ k + j) × (get_or ls j [] ≡ l)
unfolding some number_from pick
label_there [] l k h = absurd (false≢true h)
label_there (x ∷ ls) l k h = go (same_label l x) refl h (label_there ls l (suc k))
  where
    go : (t : Bool) → same_label l x ≡ t → (t || some (same_label l) ls) ≡ true
        → (some (same_label l) ls ≡ true → (j : ℕ) × (number_from (suc k) ls l ≡ suc k + j) × (get_or ls j [] ≡ l))
        → (j : ℕ) × (pick t k (number_from (suc k) ls l) ≡ k + j) × (get_or (x ∷ ls) j [] ≡ l)
    go true e q later = (0, omega arith, sym (same_bytes l x e))
    go false e q later = let r = later q in (suc r.0, omega (arith, r.1), r.2)

-- so the label of that number has these bytes
pub number_of-label : (ls : List (List ℕ)) (l : List ℕ) → is_known ls (called l) ≡ true → label_at ls (name_number ls (called l)) ≡ l
unfolding is_known name_number label_at
number_of-label ls l h =
    let r = label_there ls l 1 h in
    let number : number_from 1 ls l ≡ suc r.0 = omega (arith, r.1) in
    ap (label_at ls) number ∙ r.2
