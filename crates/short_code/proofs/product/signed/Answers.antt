use Rattle.short_code.proofs.Despreading.{branch_kept, branch_most}
use Rattle.short_code.proofs.product.signed.Goals as goal

pub returns-clause-value : goal.returns-clause-value
returns-clause-value c =
    branch_kept c.args.branch c.args.sign c.from.result c.from-2.result c.ranges.branch c.requires
    c.from.ensures c.from-2.ensures

pub returns-clause-bound : goal.returns-clause-bound
returns-clause-bound c = rw (returns-clause-value c) (branch_most c.args.branch c.args.sign c.ranges.branch c.requires)
