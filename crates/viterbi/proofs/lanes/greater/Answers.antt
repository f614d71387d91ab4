use Rattle.viterbi.proofs.Blocks.{kept}
use Rattle.viterbi.proofs.GreatestLanes.{are_greater}
use Rattle.viterbi.proofs.lanes.greater.Goals as goal

pub selected_lanes-requires-clause-even_fit : goal.selected_lanes-requires-clause-even_fit
selected_lanes-requires-clause-even_fit c =
    rw (kept c.args.one c.requires.one_fit)
    c.requires.one_fit

pub selected_lanes-requires-clause-odd_fit : goal.selected_lanes-requires-clause-odd_fit
selected_lanes-requires-clause-odd_fit c =
    rw (kept c.args.other c.requires.other_fit)
    c.requires.other_fit

pub returns : goal.returns
returns c =
    are_greater c.args.one c.args.other c.selected_lanes.result.0 c.requires.one_long
    c.requires.other_long c.requires.one_fit c.requires.other_fit
    c.selected_lanes.ensures.metrics
