use Rattle.rake_finger.proofs.Common.{◌≡◌, ◌+◌, ◌∙◌, arith, energy}
use Rattle.rake_finger.proofs.Strongest.{energy_again, strongest_one, strongest_takes, strongest_keeps}
use Rattle.rake_finger.proofs.strengths.strongest.Goals.{then-energy-most, else-energy-most}
use Rattle.rake_finger.proofs.strengths.strongest.Goals as goal

pub loop-place-init : goal.loop-place-init
loop-place-init c =
    strongest_one c.args.samples.now c.args.lowest c.energy_at-most.result
    (c.energy_at-most.ensures.value ∙
    energy_again c.args.samples.now c.phase_of.result c.args.lowest (omega arith))

-- One place more is measured: its energy takes the place of the most so far only where it is
-- greater, so of several places with the greatest energy the first is kept.
pub loop-place-preserved : goal.loop-place-preserved
loop-place-preserved c =
    let samples = c.args.samples.now in
    let lowest = c.args.lowest in
    let place = c.loop-place.place in
    let best = c.loop-place.best in
    let most = c.loop-place.most in
    let found = c.energy_at-energy.result in
    let is : found ≡ energy samples (lowest + place) = c.energy_at-energy.ensures.value ∙
    energy_again samples c.phase_of-in-loop-place.result (lowest + place) (omega arith) in
    elim c.if-energy-most.branch [
      | then-energy-most w ↦ rw (w.most-is, w.best-is)
          (strongest_takes samples lowest place best most found c.loop-place.invariant is
          w.if-energy-most.true)
      | else-energy-most w ↦ rw (w.most-is, w.best-is)
          (strongest_keeps samples lowest place best most found c.loop-place.invariant is
          w.if-energy-most.false)
    ]
