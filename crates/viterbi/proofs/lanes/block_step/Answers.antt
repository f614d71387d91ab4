use Rattle.viterbi.proofs.Common.{◌<◌, arith, get_or, ints, lane_codes, pos, to_z-of_z, w64, common_steps}
use Rattle.viterbi.proofs.BlockSteps.{BlockLanes, block_chosen, block_lanes, block_metric, gain_fits, less_fits}
use Rattle.viterbi.proofs.lanes.block_step.Given.{Over}
use Rattle.viterbi.proofs.lanes.block_step.Goals.{After-gains_of}
use Rattle.viterbi.proofs.lanes.block_step.Goals as goal

pub gains_of-requires-clause-fit : goal.gains_of-requires-clause-fit
gains_of-requires-clause-fit g c j b =
    rw (c.requires.gains j b) (gain_fits c.args.first c.args.second (get_or lane_codes j 0) c.requires.column.pair)

lanes_of : (g : Over) (c : After-gains_of g) →
    BlockLanes c.args.column.now c.args.top c.args.first c.args.second c.args.block
    c.neighbours.result.0 c.neighbours.result.1 c.gains_of.result
lanes_of g c =
    block_lanes c.args.column.now c.args.gains.now _ _ _ c.args.top c.args.first c.args.second
    c.args.block c.requires.block c.ranges.top c.requires.column c.gains_of.ensures.long
    c.requires.gains c.neighbours.ensures.even c.neighbours.ensures.odd c.gains_of.ensures.lanes

pub selected_block-requires-clause-even : goal.selected_block-requires-clause-even
selected_block-requires-clause-even g c =
    let lanes = lanes_of g (goal.at.selected_block-requires-clause-even g c).After-gains_of in
    rw (lanes.even_kept, lanes.gain_kept) lanes.even_fit

pub selected_block-requires-clause-odd : goal.selected_block-requires-clause-odd
selected_block-requires-clause-odd g c =
    let lanes = lanes_of g (goal.at.selected_block-requires-clause-odd g c).After-gains_of in
    rw (lanes.odd_kept, lanes.gain_kept) lanes.odd_fit

pub returns-clause-metrics : goal.returns-clause-metrics
returns-clause-metrics g c l b =
    let lanes = lanes_of g (goal.at.returns-clause-metrics g c).After-gains_of in
    block_metric c.args.column.now c.args.top c.args.first c.args.second c.args.block l _
    (get_or c.neighbours.result.0 l (pos 0)) (get_or c.neighbours.result.1 l (pos 0))
    (get_or c.gains_of.result l (pos 0)) _ (lanes.even_is l b) (lanes.odd_is l b)
    (rw (lanes.even_kept, lanes.odd_kept, lanes.gain_kept) at (c.selected_block.ensures.metrics l b))

pub returns-clause-choices : goal.returns-clause-choices
returns-clause-choices g c l b =
    let lanes = lanes_of g (goal.at.returns-clause-choices g c).After-gains_of in
    block_chosen c.args.column.now c.args.top c.args.first c.args.second c.args.block l _
    (get_or c.neighbours.result.0 l (pos 0)) (get_or c.neighbours.result.1 l (pos 0))
    (get_or c.gains_of.result l (pos 0)) _ (lanes.even_is l b) (lanes.odd_is l b)
    (rw (lanes.even_kept, lanes.odd_kept, lanes.gain_kept) at (c.selected_block.ensures.choices l b))

pub neighbours-requires-clause-less : goal.neighbours-requires-clause-less
neighbours-requires-clause-less g c t b =
    let can = c.requires.column in
    let below : t < 256 = omega (arith, b, can.whole) in
    rw (to_z-of_z w64 c.args.top c.ranges.top)
    (less_fits (get_or c.args.column.now t (pos 0)) c.args.top _ (can.most t below) (can.near t below))

pub selected_block-requires-clause-a_long : goal.selected_block-requires-clause-a_long
selected_block-requires-clause-a_long g c = grind (ints, arith, common_steps)

pub selected_block-requires-clause-b_long : goal.selected_block-requires-clause-b_long
selected_block-requires-clause-b_long g c = grind (ints, arith, common_steps)

pub selected_block-requires-clause-gain_long : goal.selected_block-requires-clause-gain_long
selected_block-requires-clause-gain_long g c = grind (ints, arith, common_steps)
