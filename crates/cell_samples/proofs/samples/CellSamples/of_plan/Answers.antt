use Rattle.cell_samples.proofs.Common.{map, ap, ◌∙◌, arith, BlockState, carrier_of}
use Rattle.cell_samples.proofs.Running.{chips_quiet, few_states}
use Rattle.cell_samples.proofs.samples.CellSamples.of_plan.Goals as goal

pub new-block-requires-clause-few : goal.new-block-requires-clause-few
new-block-requires-clause-few c =
    few_states c.args.plan c.in_ok-channels.channels.items c.requires.few c.requires.traffic.few
    c.in_ok-channels.ensures

pub new-block-requires-clause-quiet : goal.new-block-requires-clause-quiet
new-block-requires-clause-quiet c =
    chips_quiet c.args.width c.args.plan c.in_ok-channels.channels.items c.in_ok-channels.ensures
    c.requires.loud

pub invariant_of-result : goal.invariant_of-result
invariant_of-result c = record {
  lawful = c.requires;
  within = omega arith;
  sent = ap (λ (b : BlockState). map carrier_of b.channels) c.new-block.ensures
      ∙ c.in_ok-channels.ensures;
  link = ap (λ (b : BlockState). b.factor) c.new-block.ensures;
}
