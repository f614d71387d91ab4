use Rattle.cell_samples.proofs.KeptBlocks.{fresh_block}
use Rattle.cell_samples.proofs.block.Block.new.Goals as goal

pub invariant_of-result : goal.invariant_of-result
invariant_of-result c =
    fresh_block c.args.channels.items c.args.factor c.requires.few c.requires.factor c.requires.quiet
