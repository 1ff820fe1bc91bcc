-- `texts::Text::put_byte` meets its contract. A byte goes to the next place, or there is none.
use Rattle.std.proofs.Common.{refl, ◌∙◌, arith}
use Rattle.texts.specs.PutText.{byte_fits, byte_lost, put_one}
use Rattle.texts.proofs.Text.put_byte.Goals as goal

pub returns-then-self : goal.returns-then-self
returns-then-self c =
    let t = c.args.self.now in
    record { same = refl; puts = byte_fits t.out.now t.at c.args.b (omega arith) ∙ put_one _ _ }

pub returns-else-self : goal.returns-else-self
returns-else-self c =
    let t = c.args.self.now in
    record { same = refl; puts = byte_lost t.out.now t.at c.args.b (omega arith) ∙ put_one _ _ }
