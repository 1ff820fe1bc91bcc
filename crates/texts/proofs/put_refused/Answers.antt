-- `texts::put_refused` meets its contract. The word, and then the number and the line's end.
use Rattle.std.proofs.Common.{rules}
use Rattle.texts.specs.Puts.{puts_then, puts_all}
use Rattle.meaning.specs.PatternText.{ascii}
use Rattle.meaning.specs.Printing.{refused_text}
use Rattle.texts.proofs.put_refused.Goals as goal

pub returns : goal.returns
unfolding ascii refused_text
returns c =
    puts_all _ _ _ c.new-text.ensures.begins (puts_then c.put_bytes.ensures c.put_counted.ensures) (search rules)
