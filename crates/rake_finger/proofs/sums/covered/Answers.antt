use Rattle.rake_finger.proofs.Common.{ap, ◌∙◌, turned}
use Rattle.rake_finger.proofs.CoveredSums.{covered_is}
use Rattle.rake_finger.proofs.sums.covered.Goals as goal

pub returns-clause-value : goal.returns-clause-value
returns-clause-value c =
    c.despread.ensures.value ∙ ap (turned c.args.sample) c.signs_of.ensures ∙
    covered_is c.args.sample c.args.chips.0 c.args.chips.1 c.args.row_chip
