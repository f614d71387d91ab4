use Rattle.trial_link.proofs.Common.{◌≡◌, ◌<◌, ℕ, length, get_or, false}
use Rattle.trial_link.proofs.trial.sixteen.Given as goal

abbrev pub invariant-loop-group : goal.invariant-loop-group
invariant-loop-group l = record {
  long : length l.groups ≡ 16;
  each : (k : ℕ) → k < l.group → get_or l.groups k false ≡ get_or l.bits k false;
}
