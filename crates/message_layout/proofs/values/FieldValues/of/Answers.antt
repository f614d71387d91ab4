use Rattle.message_layout.proofs.Common.{arith, common_steps, ints}
use Rattle.message_layout.proofs.values.FieldValues.of.Goals as goal

pub loop-i-preserved : goal.loop-i-preserved
loop-i-preserved c = grind (ints, arith, common_steps)
