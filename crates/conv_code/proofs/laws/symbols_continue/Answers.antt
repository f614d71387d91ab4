use Rattle.conv_code.proofs.Continued.{continued}
use Rattle.conv_code.proofs.laws.symbols_continue.Goals as goal

pub returns : goal.returns
returns c = continued
