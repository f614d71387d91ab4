use Rattle.reception.proofs.Common.{ℕ, ◌+◌, ◌*◌, arith, ends_high, ends_low, some_chips, most_chips, times_one}
use Rattle.reception.proofs.frame_clock.FrameClock.from_frame.Goals as goal

-- A clock that begins at a frame is sound: close fingers end the frame at most some chips away from
-- where the reference path does, so the end lies after the start, and below 2^30.
pub returns-clause-sound : goal.returns-clause-sound
returns-clause-sound c =
    let form = c.args.form in
    let start : ℕ = c.args.first + c.frame_chips.result * c.args.frame in
    let low = ends_low form start c.args.fingers.now c.requires.close in
    let high = ends_high form start c.args.fingers.now c.requires.close.close in
    let some = some_chips form in
    let most = most_chips form in
    let moved = times_one c.frame_chips.result c.args.frame c.requires.frame in
    let chips = c.frame_chips.ensures.value in
    let end = c.frames_end.ensures in
    let first = c.requires.first in
    let frame = c.requires.frame in
    record {
      low_next = omega arith;
      next_have = omega arith;
      have_most = omega arith;
      start_least = rw chips (omega arith);
      start_end = omega (arith, low, some, end);
      have_end = omega (arith, low, some, end, frame);
      end_most = omega (arith, high, most, end, moved, c.frame_chips.ensures.most, first);
    }
