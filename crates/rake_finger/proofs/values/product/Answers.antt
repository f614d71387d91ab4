use Rattle.rake_finger.proofs.Common.{arith, common_steps, ints}
use Rattle.rake_finger.proofs.SoftValues.{product_is, product_most}
use Rattle.rake_finger.proofs.values.product.Goals as goal

pub overflow_mul-result : goal.overflow_mul-result
overflow_mul-result c = grind (ints, arith, common_steps)

pub returns-clause-value : goal.returns-clause-value
returns-clause-value c =
    product_is c.args.pilot c.args.symbol c.ranges.pilot c.ranges.symbol c.requires.pilot
    c.requires.symbol

pub returns-clause-size : goal.returns-clause-size
returns-clause-size c = grind (ints, arith, common_steps)

pub returns-clause-most : goal.returns-clause-most
returns-clause-most c =
    let is = product_is c.args.pilot c.args.symbol c.ranges.pilot c.ranges.symbol c.requires.pilot
    c.requires.symbol in
    rw is (product_most c.args.pilot c.args.symbol c.requires.pilot c.requires.symbol)
