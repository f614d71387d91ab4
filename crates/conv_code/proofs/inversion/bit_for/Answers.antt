use Rattle.conv_code.proofs.Common.{binary, length-binary}
use Rattle.conv_code.proofs.Loops.{bit_for}
use Rattle.conv_code.proofs.inversion.bit_for.Goals as goal

pub returns : goal.returns
returns c =
    bit_for (binary 8 c.args.register) c.push-first_of_zero.result.0 c.args.first
    (length-binary 8 c.args.register) c.push-first_of_zero.ensures.first
