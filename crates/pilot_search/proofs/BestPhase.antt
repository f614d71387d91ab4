-- The best phase of a range, and of two neighbouring ranges.
use Rattle.pilot_search.proofs.Common.{◌≡◌, ℕ, List, refl, ap, ◌∙◌, arith, pos, ints, IsFirstGreatest, first_greatest, Sample, only, energy}
use Rattle.pilot_search.proofs.Common.{first_greatest-is, best_phase, IsBestIn}

first_of_all : (samples : List Sample) (phase most : ℕ) → IsBestIn samples 0 32768 phase most →
    IsFirstGreatest (λ k. pos (energy samples k)) 32768 phase
first_of_all samples phase most h = record {
  below = h.below;
  greatest = λ k lt. let g = h.greatest k (omega arith) lt in
      let m = h.measured in omega (arith, ints, g, m);
  first = λ k lt. let g = h.first k (omega arith) lt in
      let m = h.measured in omega (arith, ints, g, m);
}

pub best_phase-only : (samples : List Sample) (phase most : ℕ) →
    IsBestIn samples 0 32768 phase most → phase ≡ best_phase samples
unfolding best_phase
best_phase-only samples phase most h =
    only (λ k. pos (energy samples k)) 32768 phase (first_of_all samples phase most h)

pub best_energy-only : (samples : List Sample) (phase most : ℕ) →
    IsBestIn samples 0 32768 phase most → most ≡ energy samples (best_phase samples)
best_energy-only samples phase most h = h.measured ∙ ap (energy samples) (best_phase-only samples phase most h)

pub best_phase-is : (samples : List Sample) →
    IsBestIn samples 0 32768 (best_phase samples) (energy samples (best_phase samples))
unfolding best_phase
best_phase-is samples =
    let f = λ (k : ℕ). pos (energy samples k) in
    let is : IsFirstGreatest f 32768 (first_greatest f 32768) = first_greatest-is f 32768 (omega arith) in
    record {
      not_below = omega arith;
      below = is.below;
      measured = refl;
      greatest = λ k _ lt. let g = is.greatest k lt in omega (arith, ints, g);
      first = λ k _ lt. let g = is.first k lt in omega (arith, ints, g);
    }
