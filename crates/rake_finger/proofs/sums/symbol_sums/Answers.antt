use Rattle.rake_finger.proofs.Common.{ints, common_steps, arith}
use Rattle.rake_finger.proofs.sums.symbol_sums.Goals as goal

pub returns-clause-sums : goal.returns-clause-sums
returns-clause-sums c = λ samples held.
    c.unbroken_sums.ensures.sums samples c.args.finger.now.row c.args.finger.now.phase
    c.args.place held c.requires.signs c.requires.held c.cell_of-cell.ensures.value (omega arith)

pub unbroken_sums-requires-clause-units : goal.unbroken_sums-requires-clause-units
unbroken_sums-requires-clause-units c = grind (ints, arith, common_steps)
