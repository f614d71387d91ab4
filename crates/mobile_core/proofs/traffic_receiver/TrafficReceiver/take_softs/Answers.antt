use Rattle.mobile_core.proofs.Common.{common_steps, ints, ◌≤◌, ◌*◌, ◌^◌, ◌∙◌, ℕ, ap, arith, sym, power_places, length, sum_by, unsigned_abs}
use Rattle.mobile_core.proofs.Common.{fingers_few}
use Rattle.heard_events.proofs.LegSubsets.{eight_small}
use Rattle.mobile_core.proofs.FramesHeard.{hears_come}
use Rattle.mobile_core.proofs.SoundFrames.{legs_held, sound_taken}
use Rattle.mobile_core.proofs.traffic_receiver.TrafficReceiver.take_softs.Goals.{After-raw}
use Rattle.mobile_core.proofs.traffic_receiver.TrafficReceiver.take_softs.Goals as goal

-- The sizes of a frame's soft values add up to at most 3 times 2^60: the active pilots have eight
-- fingers at most, and each adds no more than a bounded part.
raw_small : (c : After-raw) → sum_by unsigned_abs c.raw.result ≤ 3 * 2 ^ 60
raw_small c =
    let r = c.args.self.now in
    let is = c.requires.sound in
    let few = fingers_few r.phase r.near.count r.near.deltas r.legs is.set.most in
    let long = ap length is.fingers_are in
    let many = eight_small (length r.frames.fingers) (omega (arith, few, long, is.legs.few)) in
    omega (arith, many, c.raw.ensures.small)

pub power_softs-requires-clause-small : goal.power_softs-requires-clause-small
power_softs-requires-clause-small c = raw_small (goal.at.power_softs-requires-clause-small c).After-raw

pub power_softs-requires-clause-legs : goal.power_softs-requires-clause-legs
power_softs-requires-clause-legs c = legs_held c.requires.sound c.args.ring.now c.requires.room c.requires.ended

-- The receiver stays sound with the frame's soft values and those of its power control bits: both
-- are bounded, and its clock goes on to a frame that ends early enough to be counted.
pub returns-clause-sound : goal.returns-clause-sound
returns-clause-sound c =
    let value = c.advance.ensures.value in
    let few = c.requires.few in
    let ended = c.requires.ended in
    rw value (sound_taken c.requires.sound c.raw.result c.power_softs.result
    (raw_small (goal.at.returns-clause-sound c).After-raw) c.power_softs.ensures.most
    c.requires.idle (omega (arith, few, ended)) (rw value at c.advance.ensures.sound))

pub returns-clause-hears : goal.returns-clause-hears
returns-clause-hears c = λ t traffic m sets heard pages holds sound st.
    rw c.advance.ensures.value
    (hears_come st sound c.raw.result c.power_softs.result c.power_places-replaced.result
    c.requires.idle (sym c.requires.ended ∙ holds.taken) (c.raw.ensures.value heard holds)
    (c.power_places-replaced.ensures.value
    ∙ ap (λ (n : ℕ). power_places n c.args.self.now.frames.scrambling.mask) c.state_at.ensures)
    (c.power_softs.ensures.value heard holds))

pub power_softs-requires-clause-rising : goal.power_softs-requires-clause-rising
power_softs-requires-clause-rising c = grind (ints, arith, common_steps)

pub returns-clause-same : goal.returns-clause-same
returns-clause-same c = grind (ints, arith, common_steps)
