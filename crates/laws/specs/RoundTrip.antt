-- A pattern alone, a sheet or a table that was read is written as the bytes that it was read from, and a sound pattern or table that
-- was written is read again.
use Rattle.std.specs.Prelude.{ℕ, zero, suc, ◌^◌, ◌≤◌, ◌<◌, ◌≡◌, refl, length}
use Rattle.std.proofs.Common.{sym, ◌∙◌, arith, leb-true, le-leb}
use Rattle.std.proofs.Math.Path.{ap, subst}
use mathlib.Core.List.{List, [], ◌∷◌, ◌++◌, flat_map, append_assoc, append-nil, Memᴰ}
use Rattle.meaning.specs.Numbers.{most_patterns, most_entries}
use Rattle.meaning.specs.Reader.{read, go_on, ◌>>=◌, ◌>>◌, give, byte, end, repeat}
use Rattle.meaning.specs.Forest.{Forest}
use Rattle.meaning.specs.Sections.{label, labels, pattern, Sheet, sheet, Entry, entry, table}
use Rattle.meaning.specs.Written.{pattern_bytes, number_bytes, entry_bytes, table_bytes, label_bytes, sheet_bytes}
use Rattle.meaning.specs.LineCalls.{only_pattern}
use Rattle.laws.specs.Readers.{give-read, bind_read, read_bind, test_read, read-test, byte-read, end_read}
use Rattle.laws.specs.ReadNumbers.{Bytes, bytes_left, bytes_read, number_read, read_number, repeat_read, read-repeat}
use Rattle.laws.specs.SoundPatterns.{SoundPattern, pattern-read, read-pattern}

-- ---- a pattern alone

-- the bytes of a pattern, and no more, are the bytes of a sound one
pub only_pattern-read : (known : ℕ) (p : List ℕ) (f : Forest) (left : List ℕ) → only_pattern known p ≡ read f left → SoundPattern known f × (p ≡ pattern_bytes f)
unfolding only_pattern
only_pattern-read known p f left h =
    let one = bind_read _ _ p f left h in
    let ended = end_read _ one.middle one.after in
    let made = (give-read _ [] ended.1).0 in
    let r = pattern-read known p one.value one.middle one.before in
    subst (λ (g : Forest). SoundPattern known g × (p ≡ pattern_bytes g)) made (r.0, r.1 ∙ rw (ended.0, append-nil) refl)

-- and a sound one is read from its bytes
pub read-only_pattern : (known : ℕ) (f : Forest) → SoundPattern known f → only_pattern known (pattern_bytes f) ≡ read f []
unfolding only_pattern ◌>>◌ go_on end give
read-only_pattern known f sound =
    read_bind (pattern known) _ (pattern_bytes f) f [] (ap (pattern known) (sym (append-nil (pattern_bytes f))) ∙ read-pattern known f [] sound)

-- ---- sheets

-- a label's bytes stood there
label-read : (before : List (List ℕ)) (bs text left : List ℕ) → label before bs ≡ read text left → bs ≡ label_bytes text ++ left
unfolding label label_bytes
label-read before bs text left h =
    let long = byte-read _ bs h in
    let fits = test_read _ _ _ long.others long.after in
    let t = bind_read _ _ long.others text left fits.1 in
    let fresh = test_read _ _ _ t.middle t.after in
    let made = give-read _ t.middle fresh.1 in
    let r = bytes_read long.first long.others t.value t.middle t.before in
    cc

-- so of labels
pub labels-read : (n : ℕ) (before : List (List ℕ)) (bs : List ℕ) (ls : List (List ℕ)) (left : List ℕ) → labels n before bs ≡ read ls left
    → (length ls ≡ n) × (bs ≡ flat_map label_bytes ls ++ left)
unfolding labels flat_map
labels-read zero before bs ls left h =
    let made = give-read [] bs h in
    subst (λ (l : List (List ℕ)). (length l ≡ 0) × (bs ≡ flat_map label_bytes l ++ left)) made.0 (refl, made.1)
labels-read (suc n) before bs ls left h =
    let one = bind_read (label before) _ bs ls left h in
    let text = one.value in
    let first = label-read before bs text one.middle one.before in
    let more = bind_read (labels n (before ++ (text ∷ []))) _ one.middle ls left one.after in
    let later = labels-read n (before ++ (text ∷ [])) one.middle more.value more.middle more.before in
    let made = give-read _ more.middle more.after in
    let stood : bs ≡ (label_bytes text ++ flat_map label_bytes more.value) ++ left = rw append_assoc (cc) in
    subst (λ (l : List (List ℕ)). (length l ≡ suc n) × (bs ≡ flat_map label_bytes l ++ left)) made.0 (ap suc later.0, stood)

-- a sheet that is read: few patterns, each sound, its bytes, and none left
pub record SheetRead (bs : List ℕ) (sh : Sheet) (left : List ℕ) : Type 0 where
  pub few : length sh.patterns ≤ most_patterns
  pub sound : (p : Forest) → Memᴰ p sh.patterns → SoundPattern (length sh.labels) p
  pub stood : sheet_bytes sh ≡ bs
  pub none_left : left ≡ []

-- what the reading of a sheet gives
pub sheet-read : (bs left : List ℕ) (sh : Sheet) → sheet bs ≡ read sh left → SheetRead bs sh left
unfolding sheet sheet_bytes
sheet-read bs left sh h =
    let n = byte-read _ bs h in
    let ls = bind_read _ _ n.others sh left n.after in
    let named = labels-read n.first [] n.others ls.value ls.middle ls.before in
    let m = byte-read _ ls.middle ls.after in
    let fits = test_read _ _ _ m.others m.after in
    let ps = bind_read _ _ m.others sh left fits.1 in
    let known = length ls.value in
    let r = repeat_read (pattern known) pattern_bytes (SoundPattern known) (λ _. Unit {0}) (λ us vs k. tt)
    (λ s p l k. pattern-read known s p l) m.first m.others ps.value ps.middle tt ps.before in
    let last = end_read _ ps.middle ps.after in
    let made = give-read _ [] last.1 in
    let here : bs ≡ length ls.value ∷ (flat_map label_bytes ls.value ++ (length ps.value ∷ (flat_map pattern_bytes ps.value ++ []))) = cc in
    subst (λ (s : Sheet). SheetRead bs s left) made.0
    (record {
      few = omega (arith, r.1, leb-true m.first most_patterns fits.0);
      sound = r.0;
      stood = sym (here ∙ rw append-nil refl);
      none_left = sym made.1;
    })

-- a sheet that was read is written as the bytes that it was read from
pub sheet-round : (bs left : List ℕ) (sh : Sheet) → sheet bs ≡ read sh left → sheet_bytes sh ≡ bs
sheet-round bs left sh h = (sheet-read bs left sh h).stood

-- and its written bytes are read as the same sheet
pub sheet_again : (bs left : List ℕ) (sh : Sheet) → sheet bs ≡ read sh left → sheet (sheet_bytes sh) ≡ read sh []
sheet_again bs left sh h =
    let r = sheet-read bs left sh h in
    ap sheet r.stood ∙ h ∙ ap (read sh) r.none_left

-- ---- tables

-- an entry that fits its bytes: members of 64 bits, and a sound pattern
pub record SoundEntry (known : ℕ) (e : Entry) : Type 0 where
  pub fits : e.members < 2 ^ 64
  pub sound : SoundPattern known e.pattern

-- few entries, each sound
pub record SoundTable (known : ℕ) (es : List Entry) : Type 0 where
  pub few : length es ≤ most_entries
  pub each : (e : Entry) → Memᴰ e es → SoundEntry known e

module _ (known : ℕ) where
  -- an entry that is read is sound, and its bytes stood there
  entry_read : (bs : List ℕ) (e : Entry) (left : List ℕ) → Bytes bs → entry known bs ≡ read e left → SoundEntry known e × (bs ≡ entry_bytes e ++ left)
  unfolding entry entry_bytes
  entry_read bs e left small h =
      let ms = bind_read _ _ bs e left h in
      let p = bind_read _ _ ms.middle e left ms.after in
      let made = give-read _ p.middle p.after in
      let first = number_read 8 bs ms.value ms.middle small ms.before in
      let second = pattern-read known ms.middle p.value p.middle p.before in
      let stood : bs ≡ (number_bytes 8 ms.value ++ pattern_bytes p.value) ++ left = rw append_assoc (cc) in
      subst (λ (x : Entry). SoundEntry known x × (bs ≡ entry_bytes x ++ left)) made.0 (record { fits = first.0; sound = second.0 }, stood)

  -- a sound entry is read from its bytes
  read-entry : (e : Entry) (left : List ℕ) → SoundEntry known e → entry known (entry_bytes e ++ left) ≡ read e left
  unfolding entry entry_bytes give
  read-entry e left h =
      ap (entry known) (append_assoc (number_bytes 8 e.members) (pattern_bytes e.pattern) left)
      ∙ read_bind _ _ _ e.members (pattern_bytes e.pattern ++ left) (read_number 8 e.members (pattern_bytes e.pattern ++ left) h.fits)
      ∙ read_bind (pattern known) _ _ e.pattern left (read-pattern known e.pattern left h.sound)

-- a table that is read is sound, is written as the bytes that it was read from, and none is left
pub table-read : (sh : Sheet) (bs left : List ℕ) (es : List Entry) → table sh bs ≡ read es left → Bytes bs
    → SoundTable (length sh.labels) es × (table_bytes es ≡ bs) × (left ≡ [])
unfolding table table_bytes
table-read sh bs left es h small =
    let known = length sh.labels in
    let n = byte-read _ bs h in
    let fits = test_read _ _ _ n.others n.after in
    let got = bind_read _ _ n.others es left fits.1 in
    let small₂ : Bytes (n.first ∷ n.others) = subst Bytes n.bytes small in
    let r = repeat_read (entry known) entry_bytes (SoundEntry known) Bytes bytes_left (entry_read known) n.first n.others
    got.value got.middle (λ k. small₂ (suc k)) got.before in
    let last = end_read _ got.middle got.after in
    let made = give-read _ [] last.1 in
    let here : bs ≡ length got.value ∷ (flat_map entry_bytes got.value ++ []) = cc in
    subst (λ (l : List Entry). SoundTable known l × (table_bytes l ≡ bs) × (left ≡ [])) made.0
    (record { few = omega (arith, r.1, leb-true n.first most_entries fits.0); each = r.0 }, sym (here ∙ rw append-nil refl), sym made.1)

-- a table that was read is written as the bytes that it was read from
pub table-round : (sh : Sheet) (bs left : List ℕ) (es : List Entry) → table sh bs ≡ read es left → Bytes bs → table_bytes es ≡ bs
table-round sh bs left es h small = (table-read sh bs left es h small).1

-- a sound table that was written is read as the same table
pub table_again : (sh : Sheet) (es : List Entry) → SoundTable (length sh.labels) es → table sh (table_bytes es) ≡ read es []
unfolding table table_bytes byte ◌>>=◌ ◌>>◌ go_on end give
table_again sh es h =
    let known = length sh.labels in
    let all : repeat (length es) (entry known) (flat_map entry_bytes es) ≡ read es [] =
    ap (repeat (length es) (entry known)) (sym (append-nil (flat_map entry_bytes es)))
    ∙ read-repeat (entry known) entry_bytes (SoundEntry known) (read-entry known) es [] h.each in
    read-test _ _ _ _ (le-leb (length es) most_entries h.few) ∙ read_bind (repeat (length es) (entry known)) _ _ es [] all

-- no two different sound tables have the same bytes
pub tables_apart : (sh : Sheet) (es fs : List Entry) → SoundTable (length sh.labels) es → SoundTable (length sh.labels) fs
    → table_bytes es ≡ table_bytes fs → es ≡ fs
tables_apart sh es fs p q e =
    let one = table_again sh es p in
    let other = table_again sh fs q in
    let same : read es [] ≡ read fs [] = sym one ∙ ap (table sh) e ∙ other in
    cc same
