use Rattle.reception.proofs.Common.{arith, common_steps, ints, ◌≡◌, ℕ, ◌+◌, length, List, ℤ, ◌∙◌, sym, ap, refl, rules, frame_chips, softs}
use Rattle.reception.proofs.Common.{symbols, unscrambled, frame_softs, frame_start, in_ring, ends_step, begun_on}
use Rattle.reception.proofs.Received.{receives_frame}
use Rattle.reception.proofs.continued.Continued.take_frame.Goals as goal

pub combine_into-requires-clause-ring : goal.combine_into-requires-clause-ring
combine_into-requires-clause-ring c =
    let sound = c.requires.sound in
    let k = c.args.self.now in
    in_ring c.args.ring.now k.clock.form k.clock.start k.fingers sound.near sound.begun
    c.requires.room (c.requires.ended ∙ sound.ends)

-- The channel is sound after a frame was taken: the next one begins and ends a frame's chips later
-- on every finger, and the soft values are as many as before and within their bounds.
pub returns-clause-sound : goal.returns-clause-sound
returns-clause-sound c =
    let sound = c.requires.sound in
    let k = c.args.self.now in
    let chips : ℕ = frame_chips k.clock.form in
    let come = c.advance.ensures.value in
    let many : length c.unscramble.new.softs ≡ symbols k.clock.form = search rules in
    rw come (record {
      clocked = rw come at c.advance.ensures.sound;
      near = sound.near;
      begun = begun_on k.clock.start chips k.fingers sound.begun;
      ends = ap (λ n. n + chips) sound.ends
          ∙ sym (ends_step k.clock.form k.clock.start k.fingers sound.near);
      few = sound.few;
      rows = sound.rows;
      whole = c.shift_in.ensures.whole;
      small = rw many at c.shift_in.ensures.small;
    })

-- A frame whose last sample has come is taken as the definition has it: the soft values of its
-- symbols over all fingers, unscrambled by the frame's own bits, come after those of the frames
-- before it.
pub returns-clause-stands : goal.returns-clause-stands
returns-clause-stands c = λ count s heard holds bits none r.
    let k = c.args.self.now in
    let is = r.clocked in
    let fresh : List ℤ = c.unscramble.new.softs in
    let out : List ℤ = c.combine_into.new.out in
    let combined : out ≡ softs heard s.fingers s.form (frame_start s k.clock.have) =
    c.combine_into.ensures.value heard holds
    ∙ rw (r.fingers_are, is.form_is, is.start_is) refl in
    let fresh_is : fresh ≡ frame_softs heard s k.clock.have =
    c.unscramble.ensures.value
    ∙ ap (λ b. unscrambled b out) bits
    ∙ ap (unscrambled (s.scrambling k.clock.have)) combined in
    let long : length fresh ≡ symbols k.clock.form = search rules in
    let many : length fresh ≡ symbols s.form = long ∙ ap symbols is.form_is in
    let ended : k.clock.end ≡ length heard = sym c.requires.ended ∙ holds.taken in
    rw (c.advance.ensures.value, c.shift_in.ensures.value, many)
    (receives_frame r fresh none ended fresh_is c.requires.sound.whole many)

pub unscramble-requires-clause-small : goal.unscramble-requires-clause-small
unscramble-requires-clause-small c = grind (ints, arith, common_steps)

pub combine_into-requires-clause-rows : goal.combine_into-requires-clause-rows
combine_into-requires-clause-rows c = grind (ints, arith, common_steps)

pub shift_in-requires-clause-fresh : goal.shift_in-requires-clause-fresh
shift_in-requires-clause-fresh c = grind (ints, arith, common_steps)
