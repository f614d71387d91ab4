use Rattle.trial_link.proofs.Common.{◌≡◌, past_frames, frames_drawn}
use Rattle.trial_link.proofs.trial.drawn_frames.Given as goal

abbrev pub invariant-loop-frame : goal.invariant-loop-frame
invariant-loop-frame l = record {
  value : l.frames ≡ frames_drawn l.fn.draws.state l._frame;
  state : l.draws.state ≡ past_frames l.fn.draws.state l._frame;
}
