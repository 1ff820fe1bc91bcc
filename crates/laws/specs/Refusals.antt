-- Refusals are never 0: where a reading is refused the number is not 0, so number 0 means that a value was read.
use Prim.Native.Nat.{ℕ, zero, suc, ◌≤◌}
use Rattle.std.specs.Prelude.{Bool, true, false, List, [], ◌∷◌}
use Rattle.std.proofs.Common.{arith}
use Rattle.meaning.specs.Reader.{Reading, read, refused, Reader, go_on, ◌>>=◌, ◌>>◌, give, repeat, unless, byte, bytes, number, end}
use Rattle.meaning.specs.Sections.{Sheet, label, labels, a_step, steps, pattern, sheet, a_node, nodes, document, entry, table}
use Rattle.meaning.specs.Calls.{fair_table}
use Rattle.meaning.specs.LineCalls.{only_pattern}
use Rattle.meaning.specs.Printing.{asking}
use Rattle.meaning.specs.declared.Step.{Step}
use Rattle.meaning.specs.Numbers.{refusal_number}
use Rattle.meaning.specs.declared.Refusal.{Refusal}

module _ {A : Type 0} where
  -- a refusal's number is not 0
  unfoldable pub NotZero : Reading A → Type 0
  NotZero (read a left) = Unit {0}
  NotZero (refused why) = 1 ≤ refusal_number why

  -- whatever the bytes
  pub record Numbered (r : Reader A) : Type 0 where
    pub not_zero : (s : List ℕ) → NotZero (r s)

module _ {A B : Type 0} where
  goes_on : (first : Reading A) (next : A → Reader B) → NotZero first → ((a : A) → Numbered (next a)) → NotZero (go_on first next)
  unfolding NotZero go_on
  goes_on (read a left) next h later = (later a).not_zero left
  goes_on (refused n) next h later = h

  -- reading on with the value, and without it
  with_value : {r : Reader A} {next : A → Reader B} → Numbered r → ((a : A) → Numbered (next a)) → Numbered (◌>>=◌ r next)
  unfolding ◌>>=◌
  with_value {r = r} {next = next} h later = record { not_zero = λ s. goes_on (r s) next (h.not_zero s) later }

  without : {r : Reader A} {next : Reader B} → Numbered r → Numbered next → Numbered (◌>>◌ r next)
  unfolding ◌>>◌
  without {r = r} {next = next} h later = record { not_zero = λ s. goes_on (r s) (λ a. next) (h.not_zero s) (λ a. later) }

module _ {A : Type 0} where
  given : (a : A) → Numbered (give a)
  unfolding NotZero give
  given a = record { not_zero = λ s. tt }

module _ {A : Type 0} where
  repeats : (n : ℕ) {r : Reader A} → Numbered r → Numbered (repeat n r)
  unfolding repeat
  repeats zero h = given _
  repeats (suc n) h = with_value h λ a. with_value (repeats n h) λ later. given _

-- a test, with the number of its fault
test : (n : Refusal) (t : Bool) → 1 ≤ refusal_number n → Numbered (unless n t)
unfolding NotZero unless
test n true h = record { not_zero = λ s. tt }
test n false h = record { not_zero = λ s. h }

one : Numbered byte
unfolding NotZero byte
one = record { not_zero = go }
  where
    go : (s : List ℕ) → NotZero (byte s)
    go [] = omega arith
    go (b ∷ s) = tt

the_end : Numbered end
unfolding NotZero end
the_end = record { not_zero = go }
  where
    go : (s : List ℕ) → NotZero (end s)
    go [] = tt
    go (b ∷ s) = omega arith

a_number : (n : ℕ) → Numbered (number n)
unfolding number
a_number zero = given _
a_number (suc n) = with_value one λ low. with_value (a_number n) λ high. given _

-- ---- the sections, a line a field

a_label : (before : List (List ℕ)) → Numbered (label before)
unfolding label bytes
a_label before =
    with_value one λ long.
    without (test _ _ (omega arith)) (
    with_value (repeats long one) λ text.
    without (test _ _ (omega arith)) (given _))

some-labels : (n : ℕ) (before : List (List ℕ)) → Numbered (labels n before)
unfolding labels
some-labels zero before = given _
some-labels (suc n) before = with_value (a_label before) λ text. with_value (some-labels n _) λ later. given _

a_step_lem : (known : ℕ) (before : List Step) → Numbered (a_step known before)
unfolding a_step
a_step_lem known before =
    with_value one λ parent.
    without (test _ _ (omega arith)) (
    with_value one λ axis.
    without (test _ _ (omega arith)) (
    without (test _ _ (omega arith)) (
    with_value one λ label.
    without (test _ _ (omega arith)) (given _))))

some-steps : (known n : ℕ) (before : List Step) → Numbered (steps known n before)
unfolding steps
some-steps known zero before = given _
some-steps known (suc n) before = with_value (a_step_lem known before) λ s. with_value (some-steps known n _) λ later. given _

a_pattern : (known : ℕ) → Numbered (pattern known)
unfolding pattern
a_pattern known = with_value one λ n. without (test _ _ (omega arith)) (with_value (some-steps known n []) λ ss. given _)

pub only_pattern-numbered : (known : ℕ) → Numbered (only_pattern known)
unfolding only_pattern
only_pattern-numbered known = with_value (a_pattern known) λ f. without the_end (given _)

pub sheet-numbered : Numbered sheet
unfolding sheet
sheet-numbered =
    with_value one λ n.
    with_value (some-labels n []) λ ls.
    with_value one λ m.
    without (test _ _ (omega arith)) (
    with_value (repeats m (a_pattern _)) λ ps.
    without the_end (given _))

a_node_lem : (known k : ℕ) → Numbered (a_node known k)
unfolding a_node
a_node_lem known k =
    with_value (a_number 2) λ parent.
    without (test _ _ (omega arith)) (
    with_value one λ label.
    without (test _ _ (omega arith)) (given _))

some-nodes : (known n k : ℕ) → Numbered (nodes known n k)
unfolding nodes
some-nodes known zero k = given _
some-nodes known (suc n) k = with_value (a_node_lem known k) λ d. with_value (some-nodes known n (suc k)) λ later. given _

pub document-numbered : (sh : Sheet) → Numbered (document sh)
unfolding document
document-numbered sh =
    with_value one λ n.
    without (test _ _ (omega arith)) (
    with_value (some-labels n sh.labels) λ ls.
    with_value (a_number 2) λ m.
    without (test _ _ (omega arith)) (
    with_value (some-nodes _ m 1) λ ds.
    without the_end (given _)))

an_entry : (known : ℕ) → Numbered (entry known)
unfolding entry
an_entry known = with_value (a_number 8) λ ms. with_value (a_pattern known) λ p. given _

pub table-numbered : (sh : Sheet) → Numbered (table sh)
unfolding table
table-numbered sh =
    with_value one λ n.
    without (test _ _ (omega arith)) (
    with_value (repeats n (an_entry _)) λ es.
    without the_end (given _))

pub fair_table-numbered : (sh : Sheet) → Numbered (fair_table sh)
unfolding fair_table
fair_table-numbered sh = with_value (table-numbered sh) λ es. without (test _ _ (omega arith)) (given _)

pub asking-numbered : Numbered asking
unfolding asking
asking-numbered = with_value (a_number 2) λ limit. with_value sheet-numbered λ sh. given _
