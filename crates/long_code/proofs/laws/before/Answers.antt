use Rattle.long_code.proofs.Period.{after-rest, before_is_later}
use Rattle.long_code.proofs.laws.before.Goals as goal

pub returns : goal.returns
returns c =
    record {
      back = λ state chips h. after-rest state chips h.1;
      same = λ state chips h. before_is_later state chips h.1;
    }
