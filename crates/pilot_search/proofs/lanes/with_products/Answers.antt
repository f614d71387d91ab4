use Rattle.pilot_search.proofs.LaneSums.{may_add, sums_more}
use Rattle.pilot_search.proofs.lanes.with_products.Goals as goal

pub added-requires : goal.added-requires
added-requires c =
    may_add c.args.groups c.args.real c.args.more_real c.requires.few c.requires.near.real_bound
    c.requires.more.real_bound

pub added-requires-2 : goal.added-requires-2
added-requires-2 c =
    may_add c.args.groups c.args.imaginary c.args.more_imaginary c.requires.few
    c.requires.near.imaginary_bound c.requires.more.imaginary_bound

pub returns : goal.returns
returns c = λ samples signs room long sums products.
    sums_more samples signs c.args.groups c.args.real c.args.imaginary c.args.more_real
    c.args.more_imaginary c.added.result c.added-2.result c.requires.few room long sums products
    c.added.ensures c.added-2.ensures
