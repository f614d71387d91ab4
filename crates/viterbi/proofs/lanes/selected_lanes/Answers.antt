use Rattle.viterbi.proofs.LaneLemmas.{selected_metrics, selected_bits}
use Rattle.viterbi.proofs.lanes.selected_lanes.Goals as goal

pub returns-clause-metrics : goal.returns-clause-metrics
returns-clause-metrics c =
    selected_metrics c.args.even c.args.odd c.requires.even_fit
    c.requires.odd_fit

pub returns-clause-choices : goal.returns-clause-choices
returns-clause-choices c l b =
    selected_bits c.args.even c.args.odd c.requires.even_long
    c.requires.odd_long c.requires.even_fit c.requires.odd_fit l
