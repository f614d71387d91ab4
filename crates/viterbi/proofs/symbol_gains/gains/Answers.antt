use Rattle.viterbi.proofs.Gains.{gains_are}
use Rattle.viterbi.proofs.symbol_gains.gains.Goals as goal

pub returns : goal.returns
returns c = gains_are c.args.first c.args.second c.requires
