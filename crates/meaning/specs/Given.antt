-- What is given back: the number and the values. For each answer, the paper's number and values in each
-- case: a refusal gives its number and zeros (13 the place of the fault), and 0 comes with the values. Whether it is a
-- refusal is kept beside them, so that a refusal with the number 0 is never taken for an answer.
use Rattle.std.specs.Prelude.{ℕ, ◌≡◌, Bool, true, false, not, eqb, Result, Ok, Err}
use Rattle.meaning.specs.Numbers.{done, refusal_number}
use Rattle.meaning.specs.declared.Refusal.{Refusal}
use Rattle.meaning.specs.declared.Merged.{Merged}
use Rattle.meaning.specs.declared.Built.{Built}
use Rattle.meaning.specs.declared.Tabled.{Tabled}
use Rattle.meaning.specs.declared.LineRefusal.{LineRefusal}

pub record Given (A : Type 0) : Type 0 where
  pub refused : Bool
  pub number : ℕ
  pub values : A

module _ {A : Type 0} where
  -- a refusal: its number, and zeros
  unfoldable pub refusal : ℕ → A → Given A
  refusal n zeros = record { refused = true; number = n; values = zeros }

  -- done: 0, and the values
  unfoldable pub gives : A → Given A
  gives values = record { refused = false; number = done; values = values }

  -- as a number and values alone, for C: refused exactly if the number is not 0
  unfoldable pub by_number : ℕ → A → Given A
  by_number n values = record { refused = not (eqb n done); number = n; values = values }

  -- what is given tells by its number whether it is refused: exactly if the number is not 0
  abbrev pub ToldByNumber : Given A → Type 0
  ToldByNumber g = g.refused ≡ not (eqb g.number done)

-- ---- does a subscription match, does it cover, does anyone want the document: yes or no

unfoldable pub asked_given : Result Bool Refusal → Given Bool
asked_given (Err why) = refusal (refusal_number why) false
asked_given (Ok said) = gives said

-- ---- a merge: how many bytes are written, and the mark

unfoldable pub merged_given : Result Merged Refusal → Given Merged
merged_given (Err why) = refusal (refusal_number why) (record { length = 0; clipped = false })
merged_given (Ok m) = gives m

-- ---- a table that is built: how many bytes are written, and the rounds

unfoldable pub built_given : Result Built Refusal → Given Built
built_given (Err why) = refusal (refusal_number why) (record { length = 0; rounds = 0 })
built_given (Ok b) = gives b

-- ---- a line read: the place comes with 13, how many bytes of a pattern are written

pub record LineValues : Type 0 where
  pub place : ℕ
  pub length : ℕ

unfoldable pub lined_given : Result ℕ LineRefusal → Given LineValues
lined_given (Err e) = refusal (refusal_number e.why) (record { place = e.place; length = 0 })
lined_given (Ok long) = gives (record { place = 0; length = long })

-- ---- what is written: how many bytes

unfoldable pub output_given : Result ℕ Refusal → Given ℕ
output_given (Err why) = refusal (refusal_number why) 0
output_given (Ok long) = gives long

-- ---- the plain route: the delivery set

unfoldable pub routed_given : Result ℕ Refusal → Given ℕ
routed_given (Err why) = refusal (refusal_number why) 0
routed_given (Ok set) = gives set

-- ---- the route by a table: the delivery set, and how many patterns were tried

unfoldable pub tabled_given : Result Tabled Refusal → Given Tabled
tabled_given (Err why) = refusal (refusal_number why) (record { set = 0; tried = 0 })
tabled_given (Ok t) = gives (record { set = t.set; tried = t.tried })
