-- Label bytes are never replaced: the bytes of a label stand in the sheet, or for a document's label in the document, right
-- after the byte of their length.
use Rattle.std.specs.Prelude.{ℕ, zero, suc, ◌+◌, ◌<◌, ◌≡◌, length, get_or, take}
use Rattle.std.proofs.Common.{sym, ap, ◌∙◌, arith, get_or-append-add}
use mathlib.Core.List.{List, [], ◌∷◌, ◌++◌, flat_map, append_assoc}
use Rattle.std.proofs.Math.ListN.{get_or-append}
use Rattle.meaning.specs.Reader.{read}
use Rattle.meaning.specs.Sections.{Sheet, sheet, Document, document}
use Rattle.meaning.specs.LabelBytes.{labels_of, label_at}
use Rattle.meaning.specs.Written.{pattern_bytes, label_bytes, sheet_bytes}
use Rattle.laws.specs.DocumentRead.{document-read}
use Rattle.laws.specs.RoundTrip.{labels-read, sheet-read}

-- label n of the section, from 0, stands in the bytes: after the count and the labels before it, its length and its bytes
pub record StandsIn (bytes : List ℕ) (ls : List (List ℕ)) (n : ℕ) (part : List ℕ) : Type 0 where
  pub after : List ℕ
  pub stands : bytes ≡ length ls ∷ (flat_map label_bytes (take n ls) ++ (length part ∷ (part ++ after)))

-- so does each label of a section that is written
in_section : (ls : List (List ℕ)) (n : ℕ) (rest : List ℕ) → n < length ls
    → (after : List ℕ) × (flat_map label_bytes ls ++ rest ≡ flat_map label_bytes (take n ls) ++ (label_bytes (get_or ls n []) ++ after))
unfolding flat_map
in_section [] n rest h = absurd (omega arith)
in_section (l ∷ ls) zero rest h = (flat_map label_bytes ls ++ rest, append_assoc (label_bytes l) (flat_map label_bytes ls) rest)
in_section (l ∷ ls) (suc n) rest h =
    let r = in_section ls n rest (omega arith) in (
      r.0,
      append_assoc (label_bytes l) (flat_map label_bytes ls) rest
          ∙ ap (λ (bs : List ℕ). label_bytes l ++ bs) r.1
          ∙ sym (append_assoc (label_bytes l) (flat_map label_bytes (take n ls)) (label_bytes (get_or ls n []) ++ r.0)),
    )

section-stands : (ls : List (List ℕ)) (n : ℕ) (rest : List ℕ) → n < length ls → StandsIn (length ls ∷ (flat_map label_bytes ls ++ rest)) ls n (get_or ls n [])
unfolding label_bytes
section-stands ls n rest h =
    let r = in_section ls n rest h in
    record { after = r.0; stands = ap (λ (bs : List ℕ). length ls ∷ bs) r.1 }

-- label n of a sheet stands in the sheet
pub sheet-label-stands : (s left : List ℕ) (sh : Sheet) → sheet s ≡ read sh left → (dc : Document) (n : ℕ) → n < length sh.labels
    → StandsIn s sh.labels n (label_at (labels_of sh dc) (suc n))
unfolding labels_of label_at sheet_bytes
sheet-label-stands s left sh h dc n l =
    rw (← (sheet-read s left sh h).stood, get_or-append sh.labels dc.labels [] n)
    (section-stands sh.labels n (length sh.patterns ∷ flat_map pattern_bytes sh.patterns) l)

-- label n of a document, which is numbered after the sheet's, stands in the document
pub document-label-stands : (sh : Sheet) (d rest : List ℕ) (dc : Document) → document sh d ≡ read dc rest → (n : ℕ) → n < length dc.labels
    → StandsIn d dc.labels n (label_at (labels_of sh dc) (suc (length sh.labels + n)))
unfolding labels_of label_at
document-label-stands sh d rest dc h n l =
    let r = document-read sh d rest dc h in
    let named = labels-read r.count sh.labels r.others dc.labels r.middle r.named in
    rw (get_or-append-add sh.labels dc.labels n [], r.bytes, ← named.0, named.1) (section-stands dc.labels n r.middle l)
