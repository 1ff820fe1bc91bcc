-- What stands in the output after a table or a refusal is put at its start, where there is room.
use Rattle.std.specs.Prelude.{ℕ, ◌+◌, ◌≤◌, ◌<◌, ◌≡◌, refl, length, get_or, drop}
use Rattle.std.proofs.Common.{sym, ap, ◌∙◌, ⊎_elim, arith}
use mathlib.Core.List.Memᴰ
use mathlib.Core.List.{List, [], ◌∷◌, ◌++◌, map, Memᴰ}
use Rattle.base.specs.Standing.{length-standing}
use Rattle.meaning.specs.Numbers.{most_patterns, most_steps}
use Rattle.meaning.specs.Forest.{size}
use Rattle.meaning.specs.Sections.{Sheet}
use Rattle.meaning.specs.Sections
use Rattle.meaning.specs.Printing.{table_text, refused_text}
use Rattle.laws.specs.TextRoom.{Sized}
use Rattle.shapes.specs.Shapes.{entry_of, entries_in, table_of, WellFormed, WellFormedTable}
use Rattle.shapes.specs.Steps.{count-size}
use Rattle.shapes.specs.TableValues.{length-table}
use Rattle.shapes.specs.declared.Entry.{Entry}
use Rattle.shapes.specs.declared.Table.{Table}
use Rattle.reading.specs.SheetPlaces.{forest_at, after_pattern, forests_at, pattern_count_at, sheet_at}
use Rattle.texts.specs.PutText.{written, put, put_whole}
use Rattle.labels.specs.LabelPlaces.{labels_in}
use Rattle.printing.specs.TableTexts.{built_table, text_of, text_of_lem}
use Rattle.printing.specs.Room.{Small}
use Rattle.printing.proofs.Room.{table-room, refused-room}

-- a sheet has as many subscriptions as it counts
pub sheet_subscriptions : (s : List ℕ) → length (sheet_at s).patterns ≡ get_or s (pattern_count_at s) 0
unfolding sheet_at forests_at
sheet_subscriptions s = length-standing (forest_at s) (after_pattern s) (pattern_count_at s + 1) (get_or s (pattern_count_at s) 0)

-- no entry has more steps than may be
small-entries : (es : List Entry) → ((e : Entry) → Memᴰ e es → WellFormed e.pattern) → (x : Sections.Entry)
    → Memᴰ x (map entry_of es) → size x.pattern ≤ most_steps
unfolding entry_of
small-entries [] sound x m = elim m [ ]
small-entries (e ∷ es) sound x m =
    let here = sound e (Memᴰ.head refl) in
    ⊎_elim
    (λ q. omega (arith, ap (λ (y : Sections.Entry). size y.pattern) q, count-size e.pattern here, here.few))
    (small-entries es (λ y k. sound y (Memᴰ.tail k)) x)
    (Memᴰ.cases_cons m)

-- a sound table by value is within the limits
pub small-table : (t : Table) (rounds : ℕ) → WellFormedTable t → rounds < 100000 → Small (built_table t rounds)
unfolding built_table table_of
small-table t rounds sound h =
    record { few = omega (arith, length-table t sound, sound.few); small = small-entries (entries_in t) sound.patterns; rounds = h }

-- after `put_table` the output begins with the table's text, and the next place is its length
pub table-printed : (sh : Sheet) (s : List ℕ) (subscriptions : ℕ) (t : Table) (rounds : ℕ) (out after : List ℕ) (next : ℕ)
    → WellFormedTable t → rounds < 100000 → sh.labels ≡ labels_in s → Sized sh.labels → length sh.patterns ≡ subscriptions → subscriptions ≤ most_patterns
    → 80000 ≤ length out → written after next ≡ put (written out 0) (text_of (labels_in s) subscriptions (built_table t rounds))
    → (next ≡ length (table_text sh (built_table t rounds)))
    × (after ≡ table_text sh (built_table t rounds) ++ drop (length (table_text sh (built_table t rounds))) out)
table-printed sh s subscriptions t rounds out after next sound few e sized f l room h =
    let text = table_text sh (built_table t rounds) in
    let enough = table-room sh (built_table t rounds) sized (omega arith) (small-table t rounds sound few) in
    put_whole text out after next (omega arith) (h ∙ ap (put (written out 0)) (sym (text_of_lem sh (labels_in s) subscriptions (built_table t rounds) e f)))

-- after `put_refused` it begins with the refusal
pub refused-printed : (n : ℕ) (out after : List ℕ) (next : ℕ) → n < 100 → 11 ≤ length out → written after next ≡ put (written out 0) (refused_text n)
    → (next ≡ length (refused_text n)) × (after ≡ refused_text n ++ drop (length (refused_text n)) out)
refused-printed n out after next small room h = put_whole (refused_text n) out after next (omega (arith, refused-room n small)) h
