use Rattle.message_layout.proofs.Common.{arith, common_steps, ints}
use Rattle.message_layout.proofs.slice.BitSlice.get.Goals as goal

pub overflow_add-self-inside : goal.overflow_add-self-inside
overflow_add-self-inside c = grind (ints, arith, common_steps)

pub get-requires : goal.get-requires
get-requires c = grind (ints, arith, common_steps)
