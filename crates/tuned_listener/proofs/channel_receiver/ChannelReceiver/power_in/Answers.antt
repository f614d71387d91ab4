use Rattle.tuned_listener.proofs.Common.{arith, ints, common_steps}
use Rattle.tuned_listener.proofs.channel_receiver.ChannelReceiver.power_in.Goals as goal

pub push-requires-clause-below : goal.push-requires-clause-below
push-requires-clause-below c = grind (ints, arith, common_steps)

pub push-requires-clause-rising : goal.push-requires-clause-rising
push-requires-clause-rising c = grind (ints, arith, common_steps)
