use Rattle.cell_samples.proofs.Common.{traffic_symbols, made_of}
use Rattle.cell_samples.proofs.traffic_cycle.symbols_in_turn.Goals as goal

pub returns-clause-value : goal.returns-clause-value
returns-clause-value c =
    made_of (traffic_symbols c.args.state.now c.args.mask) c.args.frames.now c.args.frame
    c.index-frames-place.result _ c.symbols.result c.requires.some c.index-frames-place.is
    c.symbols.ensures.value
