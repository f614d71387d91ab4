use Rattle.reception.proofs.Common.{◌≡◌, max, drop, frame_end}
use Rattle.reception.proofs.fingers.frames_end.Given as goal

abbrev pub invariant-loop-finger : goal.invariant-loop-finger
invariant-loop-finger l =
    max l.end (frame_end (drop l.finger-index l.finger-items) l.form l.start)
    ≡ frame_end l.finger-items l.form l.start
