-- `subscriptions::judged::JudgedSheet::pattern` meets its contract: what stands at the place of a subscription is its pattern.
use Rattle.std.proofs.Common.{◌∙◌, ap, arith}
use Rattle.meaning.specs.Calls.{subscription}
use Rattle.shapes.specs.Shapes.{pattern_of}
use Rattle.subscriptions.proofs.judged.JudgedSheet.pattern.Goals as goal

pub returns : goal.returns
unfolding subscription
returns c =
    let t = c.args.self.now.stand.taken c.args.i (omega arith) in
    (ap pattern_of c.pattern_at.ensures ∙ t.0, rw c.pattern_at.ensures t.1)
