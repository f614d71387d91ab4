use Rattle.pilot_survey.proofs.Common.{◌≡◌, ◌+◌, ◌<◌, ℕ, length, get_or, surveyed, Rank}
use Rattle.pilot_survey.proofs.measuring.measure_all.Given as goal

abbrev pub invariant-loop-place : goal.invariant-loop-place
invariant-loop-place l = record {
  long : length l.ranks ≡ length l.fn.ranks;
  done : (k : ℕ) (d : Rank) → k < l.place → get_or l.ranks k d ≡ surveyed l.samples l.base l.width (l.first + k);
}
