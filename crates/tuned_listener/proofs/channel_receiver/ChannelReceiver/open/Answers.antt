use Rattle.tuned_listener.proofs.Common.{◌≡◌, ◌∙◌, ℕ, ◌+◌, ◌*◌, ◌≤◌, ap, arith, false, refl, subst, Data, channel_stream, clock_from, after}
use Rattle.tuned_listener.proofs.Common.{first_frame, AreNear, FrameClock, Scrambling, first_by, near_are_close}
use Rattle.tuned_listener.proofs.FramesGiven.{none_given}
use Rattle.tuned_listener.proofs.channel_receiver.ChannelReceiver.open.Goals as goal

pub new-frames-requires-clause-close : goal.new-frames-requires-clause-close
new-frames-requires-clause-close c =
    near_are_close c.reference_fingers-fingers.result c.reference_fingers-fingers.ensures.near

-- A receiver that was just opened has given no frame yet: its fingers, its first frame, its clock
-- and its scrambling are those of the channel's stream, and the samples that were taken end no
-- later than the first frame.
pub returns-clause-given : goal.returns-clause-given
returns-clause-given c = λ t taken phase deltas within early.
    let m = c.args.mark.now in
    let channel = c.args.channel.now in
    let s = channel_stream t channel m in
    let fingers = c.reference_fingers-fingers in
    let frames = c.new-frames in
    let turns = c.scrambling_of-scrambling.ensures in
    let first : ℕ = m.sample + c.offset.result in
    let fingers_are : fingers.result ≡ s.fingers =
    fingers.ensures.value ∙ rw (c.row.ensures.value, phase, deltas) refl in
    let first_is : first ≡ s.first = ap (λ (n : ℕ). m.sample + n) c.offset.ensures.value ∙ first_by channel m in
    let clock_is : frames.result.clock
    ≡ clock_from s.fingers Data false s.first (first_frame s.fingers s.first) =
    frames.ensures.clock ∙ rw (fingers_are, first_is) refl in
    let near : AreNear s.fingers = subst AreNear fingers_are fingers.ensures.near in
    let starts : frames.result.clock.start ≡ first + 24576 * first_frame fingers.result first =
    ap (λ (k : FrameClock). k.start) frames.ensures.clock in
    let most : taken ≤ frames.result.clock.end = omega (arith, early, starts, frames.ensures.sound.clocked.start_end) in
    let same = frames.ensures.scrambling in
    none_given t channel m _ taken near clock_is (frames.ensures.fingers ∙ fingers_are)
    (λ k. ap (λ (x : Scrambling). after x.state (24576 * k)) same ∙ turns.state k)
    (ap (λ (x : Scrambling). x.mask) same ∙ turns.mask) c.has_power_control.ensures within most
