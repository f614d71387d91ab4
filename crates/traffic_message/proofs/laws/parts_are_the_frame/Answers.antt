use Rattle.traffic_message.proofs.Frames.{mixed_parts, plain_parts}
use Rattle.traffic_message.proofs.laws.parts_are_the_frame.Goals as goal

pub returns-clause-mixed : goal.returns-clause-mixed
returns-clause-mixed c bits set = mixed_parts bits set

pub returns-clause-plain : goal.returns-clause-plain
returns-clause-plain c bits clear = plain_parts bits clear
