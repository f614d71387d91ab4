use Rattle.tuned_listener.proofs.Common.{arith, length, sym}
use Rattle.tuned_listener.proofs.FramesGiven.{none_within}
use Rattle.tuned_listener.proofs.tuner.Tuner.open.Goals as goal

pub returns-clause-tuned : goal.returns-clause-tuned
returns-clause-tuned c = λ t heard count phase deltas holds.
    let taken = holds.taken in
    let within = c.requires.within in
    let early = c.requires.early in
    record {
      count_is = sym count;
      ring = holds;
      given = c.open-receiver.ensures.given t (length heard) phase deltas
          (omega (arith, taken, within, count)) (omega (arith, taken, early));
    }

-- The samples that were heard before the receiver is opened hold none of its frames: they reach as
-- far as the mark at most, and the receiver's first frame ends after it.
pub returns-clause-none : goal.returns-clause-none
returns-clause-none c = λ t heard count phase deltas holds.
    let taken = holds.taken in
    let within = c.requires.within in
    let early = c.requires.early in
    let receiver = c.open-receiver.ensures in
    let begins = receiver.begins in
    let has = receiver.given t (length heard) phase deltas (omega (arith, taken, within, count))
    (omega (arith, taken, early)) in
    none_within has receiver.sound.given receiver.first (omega (arith, taken, early, begins)) heard
