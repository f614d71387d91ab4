use Rattle.trial_link.proofs.Common.{◌≡◌, length, past_draws, bits_drawn}
use Rattle.trial_link.proofs.trial.Draws.bits.Given as goal

abbrev pub invariant-loop-bit : goal.invariant-loop-bit
invariant-loop-bit l = record {
  value : l.bits ≡ bits_drawn l.fn.self.state l._bit;
  count : length l.bits ≡ l._bit;
  state : l.self.state ≡ past_draws l.fn.self.state l._bit;
}
