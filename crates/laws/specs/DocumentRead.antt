-- What the reading of a document tells of its parts: its labels and its nodes were read, each after its count.
use Rattle.std.specs.Prelude.{ℕ, ◌+◌, ◌≡◌, List, ◌∷◌, length}
use Rattle.std.proofs.Common.{subst}
use Rattle.meaning.specs.Reader.{read}
use Rattle.meaning.specs.Sections.{labels, nodes, Sheet, Document, document}
use Rattle.laws.specs.Readers.{give-read, bind_read, test_read, byte-read, end_read}

pub record DocumentRead (sh : Sheet) (d : List ℕ) (dc : Document) : Type 0 where
  -- the labels, after their count
  pub count : ℕ
  pub others : List ℕ
  pub bytes : d ≡ count ∷ others
  pub middle : List ℕ
  pub named : labels count sh.labels others ≡ read dc.labels middle
  -- the nodes, from 1 on
  pub many : ℕ
  pub from : List ℕ
  pub to : List ℕ
  pub stood : nodes (length sh.labels + count) many 1 from ≡ read dc.nodes to

pub document-read : (sh : Sheet) (d rest : List ℕ) (dc : Document) → document sh d ≡ read dc rest → DocumentRead sh d dc
unfolding document
document-read sh d rest dc h =
    let n = byte-read _ d h in
    let room = test_read _ _ _ n.others n.after in
    let ls = bind_read (labels n.first sh.labels) _ n.others dc rest room.1 in
    let m = bind_read _ _ ls.middle dc rest ls.after in
    let few = test_read _ _ _ m.middle m.after in
    let ns = bind_read (nodes (length sh.labels + n.first) m.value 1) _ m.middle dc rest few.1 in
    let last = end_read _ ns.middle ns.after in
    let made = give-read _ _ last.1 in
    subst (DocumentRead sh d) made.0
    (record {
      count = n.first;
      others = n.others;
      bytes = n.bytes;
      middle = ls.middle;
      named = ls.before;
      many = m.value;
      from = m.middle;
      to = ns.middle;
      stood = ns.before;
    })
