use Rattle.pilot_survey.proofs.Common.{length, arith, surveyed}
use Rattle.pilot_survey.proofs.Parts.{filled}
use Rattle.pilot_survey.proofs.measuring.measure_all.Goals as goal

pub returns : goal.returns
returns c =
    filled (surveyed c.args.samples.now c.args.base c.args.width) c.args.first
    (length c.args.ranks.now) c.loop-place.ranks c.loop-place.invariant.long
    (λ k d lt. c.loop-place.invariant.done k d (omega arith))
