-- How much room a text needs: 80,000 bytes are always enough for a table.
use Rattle.std.specs.Prelude.{ℕ, ◌*◌, ◌≤◌, ◌<◌, refl, Bool, true, false, length}
use Rattle.std.proofs.Common.{ap}
use mathlib.Core.List.{List, [], ◌∷◌, ◌++◌, flat_map, Memᴰ}
use native.Mathlib.Omega.{arith}
use Rattle.std.proofs.Math.ListN.{length-append}
use Rattle.base.specs.Lists.{keep, total, numbers_from}
use Rattle.base.specs.ListLaws.{keep-gives, length-keep, numbers_from-gives, length-numbers_from}
use Rattle.meaning.specs.Numbers.{most_patterns, most_steps}
use Rattle.meaning.specs.Forest.{size}
use Rattle.meaning.specs.Sections.{Sheet, Entry}
use Rattle.meaning.specs.Building.{Table, entry_steps, steps_together}
use Rattle.meaning.specs.Fair.{is_member}
use Rattle.meaning.specs.Routing.{members_of}
use Rattle.meaning.specs.PatternText.{ascii, pattern_text}
use Rattle.meaning.specs.Printing.{decimal}
use Rattle.meaning.specs.Printing.{comma_text, totals_text, entry_text, table_text, refused_text}
use Rattle.laws.specs.TextRoom.{Sized, pattern-room}
use Rattle.texts.specs.Decimals.{digits}
use Rattle.texts.specs.Wanted.{byte_if}
use Rattle.printing.specs.MemberTexts.{numbers_text}
use Rattle.printing.specs.Room.{Small}
use Rattle.printing.proofs.MemberTexts.{numbers_text_lem}

-- ---- members: three bytes a number below 100

comma_room : (started : Bool) → length (byte_if started 44) ≤ 1
unfolding byte_if
comma_room true = omega arith
comma_room false = omega arith

numbers-room : (started : Bool) (ns : List ℕ) → ((n : ℕ) → Memᴰ n ns → n < 100) → length (numbers_text started ns) ≤ 3 * length ns
unfolding numbers_text
numbers-room started [] small = omega arith
numbers-room started (n ∷ more) small =
    omega (
      arith,
      length-append (byte_if started 44) (decimal n ++ numbers_text true more),
      length-append (decimal n) (numbers_text true more),
      comma_room started,
      digits 1 n (small n (Memᴰ.head refl)),
      numbers-room true more (λ m k. small m (Memᴰ.tail k)),
    )

members-room : (n members : ℕ) → n ≤ most_patterns → length (comma_text (members_of n members)) ≤ 192
unfolding members_of
members-room n members h =
    let ms = keep (is_member members) (numbers_from 0 n) in
    let small : (m : ℕ) → Memᴰ m ms → m < 100 = λ m k. omega (arith, (numbers_from-gives 0 n (keep-gives (is_member members) (numbers_from 0 n) k).0).1) in
    omega (
      arith,
      ap length (numbers_text_lem ms),
      numbers-room false ms small,
      length-keep (is_member members) (numbers_from 0 n),
      length-numbers_from 0 n,
    )

-- ---- entries

module _ (ls : List (List ℕ)) (sized : Sized ls) (n : ℕ) (few : n ≤ most_patterns) where
  entry-room : (e : Entry) → size e.pattern ≤ most_steps → length (entry_text ls n e) ≤ 1219
  unfolding entry_text ascii
  entry-room e h =
      let pattern = pattern_text ls e.pattern in
      omega (
        arith,
        length-append (comma_text (members_of n e.members)) (ascii ": " ++ (pattern ++ ascii "\n")),
        length-append pattern (ascii "\n"),
        members-room n e.members few,
        pattern-room ls sized e.pattern h,
      )

  entries-room : (es : List Entry) → ((e : Entry) → Memᴰ e es → size e.pattern ≤ most_steps) → length (flat_map (entry_text ls n) es) ≤ 1219 * length es
  unfolding flat_map
  entries-room [] small = omega arith
  entries-room (e ∷ es) small =
      omega (
        arith,
        length-append (entry_text ls n e) (flat_map (entry_text ls n) es),
        entry-room e (small e (Memᴰ.head refl)),
        entries-room es (λ x k. small x (Memᴰ.tail k)),
      )

-- sixteen steps an entry at most
steps-room : (es : List Entry) → ((e : Entry) → Memᴰ e es → size e.pattern ≤ most_steps) → total entry_steps es ≤ 16 * length es
unfolding total entry_steps
steps-room [] small = omega arith
steps-room (e ∷ es) small = omega (arith, small e (Memᴰ.head refl), steps-room es (λ x k. small x (Memᴰ.tail k)))

-- ---- the whole

totals_room : (n : ℕ) (t : Table) → n ≤ most_patterns → Small t → length (totals_text n t) ≤ 60
unfolding totals_text ascii steps_together
totals_room n t few h =
    let steps = total entry_steps t.entries in
    let known : steps ≤ 1024 = omega (arith, steps-room t.entries h.small, h.few) in
    let line = ascii " rounds\n" in
    let fourth = decimal t.rounds ++ line in
    let third = decimal steps ++ (ascii " steps, " ++ fourth) in
    let second = decimal (length t.entries) ++ (ascii " entries, " ++ third) in
    omega (
      arith,
      length-append (decimal n) (ascii " subscriptions, " ++ second),
      length-append (decimal (length t.entries)) (ascii " entries, " ++ third),
      length-append (decimal steps) (ascii " steps, " ++ fourth),
      length-append (decimal t.rounds) line,
      digits 1 n (omega arith),
      digits 1 (length t.entries) (omega (arith, h.few)),
      digits 3 steps (omega arith),
      digits 4 t.rounds (omega (arith, h.rounds)),
    )

-- the room that is always enough
pub table-room : (sh : Sheet) (t : Table) → Sized sh.labels → length sh.patterns ≤ most_patterns → Small t → length (table_text sh t) ≤ 80000
unfolding table_text
table-room sh t sized few h =
    let n = length sh.patterns in
    omega (
      arith,
      length-append (totals_text n t) (flat_map (entry_text sh.labels n) t.entries),
      totals_room n t few h,
      entries-room sh.labels sized n few t.entries h.small,
      h.few,
    )

pub refused-room : (n : ℕ) → n < 100 → length (refused_text n) ≤ 11
unfolding refused_text ascii
refused-room n h = omega (arith, length-append (decimal n) (ascii "\n"), digits 1 n h)
