use Rattle.mobile_core.proofs.Common.{◌∙◌, ℕ, ap, power_places}
use Rattle.mobile_core.proofs.FramesHeard.{next_here}
use Rattle.heard_events.proofs.SignalParts.{decoded_long}
use Rattle.mobile_core.proofs.traffic_receiver.TrafficReceiver.next_frame.Goals as goal

pub returns-clause-says : goal.returns-clause-says
returns-clause-says c = λ t traffic m sets heard pages told come sound st.
    next_here st sound come c.power_places-replaced.result c.descramble.new.softs
    c.traffic_frame-decoded.result c.commands.result
    (c.power_places-replaced.ensures.value
    ∙ ap (λ (n : ℕ). power_places n c.args.self.now.frames.scrambling.mask) c.state_at.ensures)
    c.descramble.ensures.value c.traffic_frame-decoded.ensures.value c.commands.ensures

pub returns-clause-long : goal.returns-clause-long
returns-clause-long c =
    rw (c.traffic_frame-decoded.ensures.value) (decoded_long c.power_places-replaced.result c.descramble.new.softs)
