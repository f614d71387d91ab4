use Rattle.line_text.proofs.Common.{length, ap, arith, decimal, length-append}
use Rattle.std.proofs.lemmas.Fmt.{length-decimal-le}
use Rattle.line_text.proofs.text.Text.append_short.Goals as goal

pub returns-clause-len : goal.returns-clause-len
returns-clause-len c k some fits =
    omega (
      arith,
      ap length c.append_number.ensures.value,
      length-append c.args.self.now (decimal c.args.number),
      length-decimal-le k c.args.number some fits (omega arith),
    )
