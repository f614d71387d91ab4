use Rattle.reception.proofs.Common.{◌*◌, ◌≤◌, arith, Data, close_begun, ends_high, ends_low}
use Rattle.reception.proofs.frame_receiver.FrameReceiver.tune.Goals as goal

-- Other fingers leave the receiver sound: the clock's numbers stay, by the new fingers the frame
-- under way ends after its start and below 2^30, and as it starts at sample 226 or later no finger
-- has it begin before sample 0.
pub returns-clause-sound : goal.returns-clause-sound
returns-clause-sound c =
    let r = c.args.self.now in
    let sound = c.requires.sound in
    let clocked = sound.clocked in
    let fingers = c.args.fingers in
    let low = ends_low Data r.clock.start fingers c.requires.close in
    let high = ends_high Data r.clock.start fingers c.requires.close.close in
    let late = c.requires.late in
    let few = c.requires.few in
    let end = c.frames_end-self.ensures in
    let least = clocked.start_least in
    let whole : 24576 * r.clock.have ≤ r.clock.start = rw sound.form_is at least in
    record {
      clocked = record {
        low_next = clocked.low_next;
        next_have = clocked.next_have;
        have_most = clocked.have_most;
        start_least = least;
        start_end = omega (arith, low, end);
        have_end = omega (arith, low, end, whole);
        end_most = omega (arith, high, end, few);
      };
      form_is = sound.form_is;
      close = c.requires.close;
      begun = close_begun r.clock.start fingers c.requires.close.close late;
      ends = end;
      rows = c.requires.rows;
      masked = sound.masked;
    }
