-- `printing::put_entry` meets its contract. Members, a colon, the pattern, the line's end.
use Rattle.texts.specs.Puts.{puts_then}
use Rattle.meaning.specs.PatternText.{ascii}
use Rattle.meaning.specs.Printing.{entry_text}
use Rattle.shapes.specs.Shapes.{entry_of}
use Rattle.printing.proofs.put_entry.Goals as goal

pub returns : goal.returns
unfolding ascii entry_text entry_of
returns c =
    puts_then c.put_members.ensures (puts_then c.put_bytes.ensures (puts_then c.put_pattern.ensures c.put_bytes-2.ensures))
