-- The samples that a cell gives are the next of those that the definition makes.
use Rattle.std.proofs.Common.{◌≡◌, ℕ, List, [], ◌∷◌, map, take, drop, refl, sym, ap, ◌∙◌}
use Rattle.std.proofs.lemmas.List.{drop-map, take-map}
use Rattle.chip_core.specs.Complex.{of_sample}
use Rattle.chip_core.specs.declared.sample.Sample.{Sample}
use Rattle.cell_plan.specs.Sampled.{sample_with}
unfoldable use Rattle.cell_plan.specs.Sampled.{made_samples}
use Rattle.cell_plan.specs.Signal.{samples_of}
use Rattle.cell_plan.specs.declared.plan.CellPlan.{CellPlan}

samples_back : (samples : List Sample) → map sample_with (map of_sample samples) ≡ samples
samples_back [] = refl
samples_back (s ∷ samples) = ap (λ (ss : List Sample). s ∷ ss) (samples_back samples)

-- the next n samples
pub next_made : (plan : CellPlan) (given n : ℕ) (out : List Sample) →
    map of_sample out ≡ take n (drop given (samples_of plan)) → out ≡ take n (drop given (made_samples plan))
unfolding made_samples
next_made plan given n out is =
    sym (samples_back out)
    ∙ ap (map sample_with) is
    ∙ sym (take-map sample_with n (drop given (samples_of plan)))
    ∙ ap (take n) (sym (drop-map sample_with given (samples_of plan)))
