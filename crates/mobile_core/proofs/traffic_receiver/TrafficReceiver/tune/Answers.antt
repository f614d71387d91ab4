use Rattle.mobile_core.proofs.Common.{ap}
use Rattle.mobile_core.proofs.SoundFrames.{waits_tuned}
use Rattle.reception.specs.declared.frame_receiver.FrameReceiver.{FrameReceiver}
use Rattle.mobile_core.proofs.traffic_receiver.TrafficReceiver.tune.Goals as goal

pub returns-clause-waits : goal.returns-clause-waits
returns-clause-waits c = λ n near.
    let fingers = c.leg_fingers.ensures in
    waits_tuned c.args.self.now.frames.clock.start c.tune.new.self.clock.end n c.leg_fingers.result
    (record { some = fingers.least; close = fingers.close })
    (ap (λ (x : FrameReceiver). x.clock.end) c.tune.ensures.value) near
