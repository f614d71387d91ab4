use Rattle.mobile_core.proofs.Common.{arith, common_steps, ints}
use Rattle.mobile_core.proofs.traffic_receiver.TrafficReceiver.has_told.Goals as goal

pub returns-else-is_some : goal.returns-else-is_some
returns-else-is_some c = grind (ints, arith, common_steps)
