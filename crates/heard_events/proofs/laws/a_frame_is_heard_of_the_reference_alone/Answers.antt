use Rattle.heard_events.proofs.FramesAlone.{decoded_alone, power_alone}
use Rattle.heard_events.proofs.laws.a_frame_is_heard_of_the_reference_alone.Goals as goal

pub returns-clause-decoded : goal.returns-clause-decoded
returns-clause-decoded c = decoded_alone

pub returns-clause-power_bits : goal.returns-clause-power_bits
returns-clause-power_bits c = power_alone
