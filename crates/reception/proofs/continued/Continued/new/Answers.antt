use Rattle.reception.proofs.Common.{refl, pos, length-replicate, symbols, near_are_close}
use Rattle.reception.proofs.SoftSums.{zeros_small}
use Rattle.reception.proofs.continued.Continued.new.Goals as goal

pub new-clock-requires-clause-close : goal.new-clock-requires-clause-close
new-clock-requires-clause-close c = near_are_close c.args.fingers c.requires.near

pub returns-clause-sound : goal.returns-clause-sound
returns-clause-sound c =
    let value = c.new-clock.ensures.value in
    record {
      clocked = c.new-clock.ensures.sound;
      near = c.requires.near;
      begun = c.new-clock.ensures.begun;
      ends = rw value refl;
      few = c.requires.few;
      rows = c.requires.rows;
      whole = length-replicate 1152 (pos 0);
      small = zeros_small (symbols c.new-clock.result.form);
    }
