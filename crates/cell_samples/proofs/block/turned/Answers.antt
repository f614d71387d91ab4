use Rattle.cell_samples.proofs.Common.{arith, ints, common_steps}
use Rattle.cell_samples.proofs.TurnedChips.{difference_fits, sum_fits, turned_is}
use Rattle.cell_samples.proofs.block.turned.Goals as goal

pub overflow_sub-result : goal.overflow_sub-result
overflow_sub-result c =
    difference_fits c.args.chip c.args.signs _ _ c.requires.small
    (record { value = c.with_sign.ensures.value; bound = c.with_sign.ensures.bound })
    (record { value = c.with_sign-2.ensures.value; bound = c.with_sign-2.ensures.bound })

pub overflow_add-result : goal.overflow_add-result
overflow_add-result c =
    sum_fits c.args.chip c.args.signs _ _ c.requires.small
    (record { value = c.with_sign-3.ensures.value; bound = c.with_sign-3.ensures.bound })
    (record { value = c.with_sign-4.ensures.value; bound = c.with_sign-4.ensures.bound })

pub returns : goal.returns
returns c =
    turned_is c.args.chip c.args.signs _ _ _ _ c.requires.small c.requires.point
    (record { value = c.with_sign.ensures.value; bound = c.with_sign.ensures.bound })
    (record { value = c.with_sign-2.ensures.value; bound = c.with_sign-2.ensures.bound })
    (record { value = c.with_sign-3.ensures.value; bound = c.with_sign-3.ensures.bound })
    (record { value = c.with_sign-4.ensures.value; bound = c.with_sign-4.ensures.bound })

pub with_sign-requires-3-clause-part : goal.with_sign-requires-3-clause-part
with_sign-requires-3-clause-part c = grind (ints, arith, common_steps)

pub with_sign-requires-4-clause-sign : goal.with_sign-requires-4-clause-sign
with_sign-requires-4-clause-sign c = grind (ints, arith, common_steps)

pub with_sign-requires-4-clause-part : goal.with_sign-requires-4-clause-part
with_sign-requires-4-clause-part c = grind (ints, arith, common_steps)

pub with_sign-requires-3-clause-sign : goal.with_sign-requires-3-clause-sign
with_sign-requires-3-clause-sign c = grind (ints, arith, common_steps)
