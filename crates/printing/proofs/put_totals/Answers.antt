-- `printing::put_totals` meets its contract. Four numbers, each with its text.
use Rattle.texts.specs.Puts.{puts_then}
use Rattle.meaning.specs.PatternText.{ascii}
use Rattle.printing.specs.TableTexts.{totals_of}
use Rattle.printing.proofs.put_totals.Goals as goal

pub returns : goal.returns
unfolding ascii totals_of
returns c =
    puts_then c.put_counted.ensures (puts_then c.put_counted-2.ensures (puts_then c.put_counted-3.ensures c.put_counted-4.ensures))
