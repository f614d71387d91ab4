use Rattle.cell_samples.proofs.Common.{refl, level_added}
use Rattle.cell_samples.proofs.Blocks.{level_part_fits, level_sum_fits}
use Rattle.cell_samples.proofs.block.with_level.Goals as goal

pub overflow_mul-result : goal.overflow_mul-result
overflow_mul-result c = level_part_fits c.args.level c.args.factor.i c.requires.level c.requires.factor.0

pub overflow_add-result : goal.overflow_add-result
overflow_add-result c =
    let r = c.requires in
    level_sum_fits c.args.sum.i c.args.level c.args.factor.i r.sum.0 r.level r.factor.0

pub overflow_mul-result-2 : goal.overflow_mul-result-2
overflow_mul-result-2 c = level_part_fits c.args.level c.args.factor.q c.requires.level c.requires.factor.1

pub overflow_add-result-2 : goal.overflow_add-result-2
overflow_add-result-2 c =
    let r = c.requires in
    level_sum_fits c.args.sum.q c.args.level c.args.factor.q r.sum.1 r.level r.factor.1

pub returns : goal.returns
returns c =
    let s = c.args.sum in
    let f = c.args.factor in
    let r = c.requires in
    rw (
      level_added s.i c.args.level f.i r.sum.0 r.level r.factor.0,
      level_added s.q c.args.level f.q r.sum.1 r.level r.factor.1,
    )
    refl
