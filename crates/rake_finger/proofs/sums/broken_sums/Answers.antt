use Rattle.rake_finger.proofs.Common.{ap, ◌∙◌, sum_of, despread_at}
use Rattle.rake_finger.proofs.SoftValues.{covered-pilot}
use Rattle.rake_finger.proofs.sums.broken_sums.Goals as goal

pub returns-clause-sums : goal.returns-clause-sums
returns-clause-sums c = λ samples held. record {
  plain = c.covered_sum.ensures.value samples held
      ∙ ap sum_of
      (covered-pilot 0 (despread_at samples c.args.finger.now.phase c.args.place c.args.chips));
  covered = c.covered_sum-2.ensures.value samples held;
}
