-- Label bytes: the stretch of bytes itself, from the sheet's section or from the document's, without its length byte.
use Rattle.std.specs.Prelude.{ℕ, zero, suc, List, [], ◌++◌, Bool, ◌&&◌, leb, length, get_or}
use Rattle.meaning.specs.Sections.{Sheet, Document}

-- the labels of a sheet and a document beside it, numbered from 1: the document's carry the numbers after the sheet's
unfoldable pub labels_of : Sheet → Document → List (List ℕ)
labels_of sh d = sh.labels ++ d.labels

-- the label number exists
unfoldable pub is_label : List (List ℕ) → ℕ → Bool
is_label ls n = leb 1 n && leb n (length ls)

-- the bytes of label n; 0 is no label, nor is a number after the last, and they have none
unfoldable pub label_at : List (List ℕ) → ℕ → List ℕ
label_at ls zero = []
label_at ls (suc n) = get_or ls n []
