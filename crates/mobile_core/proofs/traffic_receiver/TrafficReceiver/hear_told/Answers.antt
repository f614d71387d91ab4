use Rattle.mobile_core.proofs.Common.{arith, common_steps, ints, ◌≡◌, ◌<◌, None, rules, []}
use Rattle.mobile_core.proofs.FramesTold.{hears_heard}
use Rattle.mobile_core.proofs.traffic_receiver.TrafficReceiver.hear_told.Goals as goal

-- The frame's event is the first that the channel had left: what it decodes to is what the
-- definition hears of it, and the message that its signaling completes is kept, to be told next.
pub returns-clause-hears : goal.returns-clause-hears
returns-clause-hears c = λ t traffic m sets heard at' check sound st.
    let r = c.args.self.now in
    let none : r.kept ≡ None = search rules in
    let come : r.frames.clock.next < r.frames.clock.have = search rules in
    let next = c.next_frame-frame.result in
    let says = c.next_frame-frame.ensures.says t traffic m sets heard [] _ come sound st in
    let signal = c.hear_signal-self in
    rw (c.hear.ensures.value, c.frame_event.ensures.value, at')
    (hears_heard st sound come none next.0 next.1 signal.new.framer signal.result says.0
    says.1 signal.ensures.framed (rw check at signal.ensures.message))

pub returns-in-Some-clause-hears : goal.returns-in-Some-clause-hears
returns-in-Some-clause-hears c = grind (ints, arith, common_steps)
