use Rattle.conv_code.proofs.Distinct.{distinct}
use Rattle.conv_code.proofs.laws.symbols_fix_the_bits.Goals as goal

pub returns : goal.returns
returns c = distinct
