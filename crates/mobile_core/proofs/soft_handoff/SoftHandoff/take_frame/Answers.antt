use Rattle.mobile_core.proofs.Common.{common_steps, ints, ap, arith, frame_chips, TrafficReceiver, close_ends}
use Rattle.mobile_core.proofs.soft_handoff.SoftHandoff.take_frame.Goals as goal

-- After a frame that ended at these samples was taken, the receiver waits for the next one: that
-- one begins where this one ended for the reference, and no finger is further than 226 chips from
-- there, so it ends after all samples that were taken.
pub returns-clause-waits : goal.returns-clause-waits
returns-clause-waits c =
    let frames = c.requires.sound.receiver.frames in
    let r = c.args.self.now.receiver.frames in
    let same = c.take_softs.ensures.same in
    let high = (close_ends r.clock.start r.fingers frames.close).1 in
    let ends = frames.ends in
    let ended = c.if-self-taken.false in
    let taken = c.taken.ensures.value in
    let chips = ap frame_chips frames.form_is in
    let end' = ap (λ (x : TrafficReceiver). x.frames.clock.end) same in
    let start' = ap (λ (x : TrafficReceiver). x.frames.clock.start) same in
    c.tune.ensures.waits c.args.ring.now.taken (omega (arith, ended, taken, end', chips))
    (λ e. omega (arith, high, ends, ended, taken, start', chips))

pub tune-requires : goal.tune-requires
tune-requires c = grind (ints, arith, common_steps)

pub returns-clause-hears : goal.returns-clause-hears
returns-clause-hears c = grind (ints, arith, common_steps)
