use Rattle.cell_samples.proofs.Common.{SFits, get_or, pos, rules, w64}
use Rattle.cell_samples.proofs.KeptBlocks.{same_level}
use Rattle.cell_samples.proofs.block.keep_level.Goals as goal

pub returns-clause-kept : goal.returns-clause-kept
returns-clause-kept c e =
    let fits : SFits w64 (get_or c.args.levels.now c.args.channel (pos 0)) = search rules in
    same_level c.args.levels.now c.args.channel c.args.level fits e
