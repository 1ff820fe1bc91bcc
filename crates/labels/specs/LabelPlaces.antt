-- Where labels stand in bytes, and what stands there: for any bytes and any place.
use Rattle.std.specs.Prelude.{ℕ, ◌+◌, List, ltb, length, get_or, take, drop}
use Rattle.base.specs.Choice.{pick}
use Rattle.base.specs.Standing.{standing}

-- the bytes of the label whose length byte stands at p
unfoldable pub text_at : List ℕ → ℕ → List ℕ
text_at s p = take (get_or s p 0) (drop (p + 1) s)

-- the place after that label; past the end there is none
unfoldable pub after_label : List ℕ → ℕ → ℕ
after_label s p = pick (ltb p (length s)) (p + 1 + get_or s p 0) p

-- n labels from the place p on
unfoldable pub texts_at : List ℕ → ℕ → ℕ → List (List ℕ)
texts_at s = standing (text_at s) (after_label s)

-- the labels of the sheet s: after their count, from place 1 on
unfoldable pub labels_in : List ℕ → List (List ℕ)
labels_in s = texts_at s 1 (get_or s 0 0)
