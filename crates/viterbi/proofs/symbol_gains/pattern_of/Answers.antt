use Rattle.viterbi.proofs.Common.{refl, patterns}
use Rattle.viterbi.proofs.BlockSteps.{pattern_small}
use Rattle.viterbi.proofs.symbol_gains.pattern_of.Goals as goal

pub returns-clause-value : goal.returns-clause-value
unfolding patterns
returns-clause-value c = refl

pub returns-clause-small : goal.returns-clause-small
unfolding patterns
returns-clause-small c = pattern_small c.args.block c.requires
