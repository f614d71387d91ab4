use Rattle.pilot_search.proofs.LaneSums.{IsTotal, fit_kept, is_total}
use Rattle.pilot_search.proofs.lanes.sum_of_lanes.Goals as goal

pub total_of-requires-clause-fit : goal.total_of-requires-clause-fit
total_of-requires-clause-fit c = fit_kept c.args.groups c.args.real c.requires.few c.requires.near.real_bound

pub total_of-requires-2-clause-fit : goal.total_of-requires-2-clause-fit
total_of-requires-2-clause-fit c =
    fit_kept c.args.groups c.args.imaginary c.requires.few c.requires.near.imaginary_bound

pub returns : goal.returns
returns c =
    let near = c.requires.near in
    let i : IsTotal c.args.groups c.args.real c.total_of.result =
    is_total c.args.groups c.args.real c.total_of.result c.requires.few near.real_long
    near.real_bound c.total_of.ensures in
    let q : IsTotal c.args.groups c.args.imaginary c.total_of-2.result =
    is_total c.args.groups c.args.imaginary c.total_of-2.result c.requires.few near.imaginary_long
    near.imaginary_bound c.total_of-2.ensures in
    record { value = λ j. record { i = i.is j; q = q.is j }; i_bound = i.bound; q_bound = q.bound }
