use Rattle.rake_finger.proofs.Common.{◌≡◌, ◌+◌, ◌-◌, ◌/◌, ◌<◌, List, ap, ◌∙◌, arith, pos, ◌-ℤ◌, to_z, of_z, w16, ints, Sample, strength}
use Rattle.rake_finger.proofs.Strongest.{strongest_energy, strongest_delta, energy_most}
use Rattle.rake_finger.proofs.strengths.strength.Goals as goal

pub returns-clause-energy : goal.returns-clause-energy
returns-clause-energy c = λ samples held.
    let phase = c.args.phase + (c.args.end - 512) in
    let window = c.args.window in
    let low : c.from.result + (c.args.end - 512) + 32768 - c.from-2.result ≡
    phase + 32768 - window / 2 = omega arith in
    strongest_energy c.samples_before-samples.result phase window _ c.strongest-energy.result.1
    c.strongest-energy.result.0 (omega arith) low c.strongest-energy.ensures
    ∙ ap (λ (xs : List Sample). (strength xs phase window).energy) (c.samples_before-samples.ensures.value samples held)

-- The delta is the definition's: the strongest place was counted from half a window below the phase
-- that meets the first of the last 512 samples, and the place less that half fits into 16 bits.
pub returns-clause-delta : goal.returns-clause-delta
returns-clause-delta c = λ samples held.
    let phase = c.args.phase + (c.args.end - 512) in
    let window = c.args.window in
    let place = c.strongest-energy.result.1 in
    let below : place < window + 1 = c.strongest-energy.ensures.first.below in
    let low : c.from.result + (c.args.end - 512) + 32768 - c.from-2.result ≡
    phase + 32768 - window / 2 = omega arith in
    let same : to_z w16 (of_z w16 (to_z w16 place -ℤ to_z w16 (window / 2))) ≡
    pos place -ℤ pos (window / 2) = omega (arith, ints, below) in
    same
    ∙ strongest_delta c.samples_before-samples.result phase window _ place
    c.strongest-energy.result.0 (omega arith) low c.strongest-energy.ensures
    ∙ ap (λ (xs : List Sample). (strength xs phase window).delta) (c.samples_before-samples.ensures.value samples held)

-- The energy is at most 2^51: it is that of 512 samples, each of which fits into 16 bits.
pub returns-clause-most : goal.returns-clause-most
returns-clause-most c =
    let samples = c.samples_before-samples.result in
    let long = c.samples_before-samples.ensures.long in
    let is = c.strongest-energy.ensures.measured in
    rw is (energy_most samples _ (omega (arith, long)) c.samples_before-samples.ensures.narrow)
