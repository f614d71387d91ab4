use Rattle.cdma_io.proofs.Common.{arith, common_steps, ints}
use Rattle.cdma_io.proofs.memory_sink.MemorySinkSink.give.Goals as goal

pub returns-clause-fails : goal.returns-clause-fails
returns-clause-fails c = grind (ints, arith, common_steps)

pub returns-clause-progress : goal.returns-clause-progress
returns-clause-progress c = grind (ints, arith, common_steps)

pub slice_bounds-extend_from_slice-end : goal.slice_bounds-extend_from_slice-end
slice_bounds-extend_from_slice-end c = grind (ints, arith, common_steps)

pub unwrap-requires : goal.unwrap-requires
unwrap-requires c = grind (ints, arith, common_steps)

pub invariant_of-self-2 : goal.invariant_of-self-2
invariant_of-self-2 c = grind (ints, arith, common_steps)

pub returns-clause-cause : goal.returns-clause-cause
returns-clause-cause c = grind (ints, arith, common_steps)
