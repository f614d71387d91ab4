-- How strong a pilot is.
use Rattle.pilot_survey.proofs.Common.{◌≡◌, ℕ, ◌+◌, ◌*◌, List, refl, ap, ℤ, pos, ◌-ℤ◌, IsFirstGreatest, Sample, energy, survey_phase, Rank}
use Rattle.pilot_survey.proofs.Common.{strongest, surveyed}
use Rattle.chip_core.proofs.Greatest.{only}

-- the rank of a pilot whose place of greatest energy is this one
abbrev ranked : List Sample → ℕ → ℕ → ℕ → ℕ → Rank
ranked samples base width pilot best = record {
  pilot = pilot;
  delta = pos best -ℤ pos width;
  energy = energy samples (survey_phase base width pilot best);
}

strongest_is : (samples : List Sample) (base width pilot best : ℕ) →
    IsFirstGreatest (λ (k : ℕ). pos (energy samples (survey_phase base width pilot k))) (2 * width + 1) best →
    best ≡ strongest samples base width pilot
unfolding strongest
strongest_is samples base width pilot best is =
    only (λ (k : ℕ). pos (energy samples (survey_phase base width pilot k))) (2 * width + 1) best is

pub surveyed_is : (samples : List Sample) (base width pilot best most : ℕ) (delta : ℤ) →
    most ≡ energy samples (survey_phase base width pilot best) → delta ≡ pos best -ℤ pos width →
    IsFirstGreatest (λ (k : ℕ). pos (energy samples (survey_phase base width pilot k))) (2 * width + 1) best →
    record { pilot = pilot; delta = delta; energy = most } ≡ surveyed samples base width pilot
unfolding surveyed
surveyed_is samples base width pilot best most delta high away is =
    rw (high, away) (ap (ranked samples base width pilot) (strongest_is samples base width pilot best is))

-- it is the pilot's own
pub surveyed_pilot : (samples : List Sample) (base width pilot : ℕ) → (surveyed samples base width pilot).pilot ≡ pilot
unfolding surveyed
surveyed_pilot samples base width pilot = refl
