-- What is put of the members of an entry, from the first subscription to the last.
use Rattle.std.specs.Prelude.{ℕ, ◌+◌, ◌-◌, ◌≤◌, ◌<◌, ◌≡◌, refl, Bool, true, false, List, [], ◌∷◌, ◌++◌}
use Rattle.std.proofs.Math.Path.{sym}
use Rattle.std.proofs.Common.{ap, ◌∙◌, append-nil, arith, add-one}
use Rattle.base.specs.Choice.{pick}
use Rattle.base.specs.Lists.{keep, numbers_from}
use Rattle.base.specs.Loops.{split, none_left}
use Rattle.meaning.specs.Fair.{is_member}
use Rattle.meaning.specs.Routing.{members_of}
use Rattle.meaning.specs.PatternText.{ascii}
use Rattle.meaning.specs.Printing.{decimal, comma_text}
use Rattle.texts.specs.Wanted.{byte_if}
use Rattle.printing.specs.MemberTexts.{numbers_text, members_from}

-- after the first, there is a comma before what follows
after_comma : (n : ℕ) (more : List ℕ) → numbers_text true (n ∷ more) ≡ ascii "," ++ comma_text (n ∷ more)
unfolding numbers_text byte_if comma_text ascii
after_comma n [] = ap (λ (l : List ℕ). 44 ∷ l) (append-nil (decimal n))
after_comma n (m ∷ more) = ap (λ (l : List ℕ). 44 ∷ (decimal n ++ l)) (after_comma m more)

pub numbers_text_lem : (ns : List ℕ) → comma_text ns ≡ numbers_text false ns
unfolding numbers_text byte_if comma_text
numbers_text_lem [] = refl
numbers_text_lem (n ∷ []) = sym (append-nil (decimal n))
numbers_text_lem (n ∷ m ∷ more) = ap (λ (l : List ℕ). decimal n ++ l) (sym (after_comma m more))

pub members-text : (n members : ℕ) → comma_text (members_of n members) ≡ numbers_text false (members_from members 0 (n - 0))
unfolding members_of members_from
members-text n members =
    let all : n ≡ n - 0 = omega arith in
    numbers_text_lem (keep (is_member members) (numbers_from 0 n)) ∙ ap (λ (k : ℕ). numbers_text false (keep (is_member members) (numbers_from 0 k))) all

module _ (members n i : ℕ) (h : i < n) (started said : Bool) (asked : said ≡ is_member members i) where
  -- subscription i is a member
  pub member_here : said ≡ true
      → numbers_text started (members_from members i (n - i)) ≡ byte_if started 44 ++ (decimal i ++ numbers_text true (members_from members (i + 1) (n - (i + 1))))
  unfolding numbers_text members_from keep numbers_from pick
  member_here e = rw (split n i h, sym asked ∙ e, add-one)

  -- it is none
  pub member_not : said ≡ false
      → numbers_text started (members_from members i (n - i)) ≡ numbers_text started (members_from members (i + 1) (n - (i + 1)))
  unfolding members_from keep numbers_from pick
  member_not e = rw (split n i h, sym asked ∙ e, add-one)

-- none is left
pub members-end : (members n i : ℕ) (started : Bool) → n ≤ i → numbers_text started (members_from members i (n - i)) ≡ []
unfolding numbers_text members_from keep numbers_from
members-end members n i started h = rw (none_left n i h)
