use Rattle.heard_events.proofs.Common.{arith, pos, ◌≤◌, unsigned_abs, All-replicate}
use Rattle.heard_events.proofs.sets_keeper.SetsKeeper.new.Goals as goal

pub returns-clause-sound : goal.returns-clause-sound
returns-clause-sound c = rw (c.new.ensures) (record {
  marked = c.requires.mark;
  close = All-replicate (λ d. unsigned_abs d ≤ 226) 512 (pos 0) (omega arith);
  few = omega arith;
  early = λ e. absurd (cc);
})
