use Rattle.tuned_listener.proofs.FramesGiven.{frame_is}
use Rattle.tuned_listener.proofs.channel_receiver.ChannelReceiver.coming.Goals as goal

pub returns-clause-value : goal.returns-clause-value
returns-clause-value c = λ t channel m heard taken holds has.
    let raw = c.raw-softs in
    frame_is has heard raw.result c.descramble.new.softs c.power_in-power.result
    (raw.ensures.value heard holds) c.descramble.ensures.value (c.power_in-power.ensures t channel m taken has)
