-- Pieces of a cell's samples.
use Rattle.cell_plan.proofs.Common.{◌≡◌, ℕ, ◌+◌, ◌<◌, ◌≤◌, List, length, get_or, take, drop, map, sym, ◌∙◌, arith, pos, get_or-drop, places}
use Rattle.cell_plan.proofs.Common.{length-take-le, get_or-take, get_or-map, length-map, origin, of_sample, Sample, length-map-places}
use Rattle.cell_plan.proofs.Common.{get_or-map-places, map-places-all, CellPlan, sample_of, samples_of, length-drop}

abbrev pub no_sample : Sample
no_sample = record { i = pos 0; q = pos 0 }

-- the piece of the samples from a place on
pub piece_of_samples : (plan : CellPlan) (given n : ℕ) → given + n ≤ plan.link.samples →
    take n (drop given (samples_of plan)) ≡ map (λ k. sample_of plan (given + k)) (places n)
unfolding samples_of
piece_of_samples plan given n within =
    let all = map (sample_of plan) (places plan.link.samples) in
    let long : length all ≡ plan.link.samples = length-map-places (sample_of plan) plan.link.samples in
    let rest : n ≤ length (drop given all) = omega (arith, within, long, length-drop given all) in
    map-places-all (λ k. sample_of plan (given + k)) (take n (drop given all)) n origin
    (length-take-le n (drop given all) rest)
    (λ k lt. get_or-take n (drop given all) k origin lt ∙ get_or-drop given all k origin
    ∙ get_or-map-places (sample_of plan) plan.link.samples (given + k) origin (omega (arith, within, lt)))

-- samples that are those of the definition, one by one
pub pieces_are : (plan : CellPlan) (given : ℕ) (out : List Sample) → given + length out ≤ plan.link.samples →
    ((k : ℕ) → k < length out → of_sample (get_or out k no_sample) ≡ sample_of plan (given + k)) →
    map of_sample out ≡ take (length out) (drop given (samples_of plan))
pieces_are plan given out within each =
    map-places-all (λ k. sample_of plan (given + k)) (map of_sample out) (length out) origin (length-map out of_sample)
    (λ k lt. get_or-map of_sample out k no_sample origin lt ∙ each k lt)
    ∙ sym (piece_of_samples plan given (length out) within)
