-- `subscriptions::judged::JudgedSheet::asked` meets its contract: the number is looked at first.
use Rattle.std.proofs.Common.{refl, arith}
use Rattle.subscriptions.specs.Subscribed.{number_subscribed, number_unsubscribed}
use Rattle.subscriptions.proofs.judged.JudgedSheet.asked.Goals as goal

pub returns-then-count-i : goal.returns-then-count-i
returns-then-count-i c = (number_unsubscribed c.args.self.now.stand c.args.i (omega arith), refl)

pub returns : goal.returns
returns c = (number_subscribed c.args.self.now.stand c.args.i (omega arith), c.pattern.ensures.0, c.pattern.ensures.1)
