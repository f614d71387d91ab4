use Rattle.cell_samples.proofs.TurnedChips.{signed_within, with_sign_fits, with_sign_is}
use Rattle.cell_samples.proofs.block.with_sign.Goals as goal

pub overflow_mul-result : goal.overflow_mul-result
overflow_mul-result c =
    with_sign_fits c.args.part c.args.sign c.from.result c.requires.part c.requires.sign
    c.from.ensures

pub returns-clause-value : goal.returns-clause-value
returns-clause-value c =
    with_sign_is c.args.part c.args.sign c.from.result c.requires.part c.requires.sign
    c.from.ensures

pub returns-clause-bound : goal.returns-clause-bound
returns-clause-bound c = rw (returns-clause-value c) (signed_within c.args.part c.args.sign c.requires.sign)
