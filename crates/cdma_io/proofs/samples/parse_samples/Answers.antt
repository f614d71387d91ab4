use Rattle.cdma_io.proofs.Common.{arith, common_steps, ints, ◌<◌, length, rules}
use Rattle.cdma_io.proofs.Spelling.{in_range_more, samples_more}
use Rattle.cdma_io.proofs.samples.parse_samples.Goals as goal

pub loop-k-preserved : goal.loop-k-preserved
loop-k-preserved c =
    let out = c.loop-k.out in
    let k = c.loop-k.k in
    let within : k < length out = search rules in
    record {
      spelled =
          samples_more c.args.width c.args.bytes.now out k _ _ c.parse_sample.result within
          (search rules) (search rules) c.loop-k.invariant.spelled c.parse_sample.ensures.spelled;
      in_range =
          in_range_more c.args.width out k c.parse_sample.result within c.loop-k.invariant.in_range
          c.parse_sample.ensures.in_range;
    }

pub returns-clause-spelled : goal.returns-clause-spelled
returns-clause-spelled c = grind (ints, arith, common_steps)

pub returns-clause-in_range : goal.returns-clause-in_range
returns-clause-in_range c = grind (ints, arith, common_steps)
