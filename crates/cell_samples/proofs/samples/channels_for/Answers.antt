use Rattle.cell_samples.proofs.Common.{arith, ints, common_steps}
use Rattle.cell_samples.proofs.samples.channels_for.Goals as goal

pub with_traffic-requires-clause-traffic : goal.with_traffic-requires-clause-traffic
with_traffic-requires-clause-traffic c = grind (ints, arith, common_steps)

pub new-requires : goal.new-requires
new-requires c = grind (ints, arith, common_steps)

pub with_paging-requires-clause-paging : goal.with_paging-requires-clause-paging
with_paging-requires-clause-paging c = grind (ints, arith, common_steps)
