use Rattle.reception.proofs.Common.{◌∙◌, ◌+◌, ap, sym, frame_chips, later_by, begun_on}
use Rattle.reception.proofs.frame_receiver.FrameReceiver.advance.Goals as goal

-- The receiver is sound after a frame: the next one begins 24,576 chips later, on every finger and
-- so at the latest of their ends too, and fingers, rows and mask stay as they were.
pub returns-clause-sound : goal.returns-clause-sound
returns-clause-sound c =
    let r = c.args.self.now in
    let sound = c.requires.sound in
    let chips = frame_chips r.clock.form in
    let form = ap frame_chips sound.form_is in
    let later = later_by _ r.clock.start 24576 r.fingers sound.close in
    let come = c.advance.ensures.value in
    let end = sound.ends in
    rw come (record {
      clocked = rw come at c.advance.ensures.sound;
      form_is = sound.form_is;
      close = sound.close;
      begun = begun_on r.clock.start chips r.fingers sound.begun;
      ends = ap (λ n. n + chips) end
          ∙ rw form (sym later);
      rows = sound.rows;
      masked = sound.masked;
    })
