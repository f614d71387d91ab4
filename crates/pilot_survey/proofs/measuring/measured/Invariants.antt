use Rattle.pilot_survey.proofs.Common.{◌≡◌, ℕ, pos, IsFirstGreatest, energy, survey_phase}
use Rattle.pilot_survey.proofs.measuring.measured.Given as goal

abbrev pub invariant-loop-place : goal.invariant-loop-place
invariant-loop-place l = record {
  most : l.most ≡ energy l.samples (survey_phase l.base l.width l.pilot l.best);
  first : IsFirstGreatest (λ (k : ℕ). pos (energy l.samples (survey_phase l.base l.width l.pilot k))) l.place l.best;
}
