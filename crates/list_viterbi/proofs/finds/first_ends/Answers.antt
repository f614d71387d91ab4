use Rattle.list_viterbi.proofs.Common.{[], ◌∙◌, add-one, end_read, first_finds}
use Rattle.list_viterbi.proofs.finds.first_ends.Goals as goal

pub loop-state-init : goal.loop-state-init
unfolding first_finds
loop-state-init c = c.empty-finds.ensures

pub loop-state-preserved : goal.loop-state-preserved
unfolding first_finds
loop-state-preserved c =
    let read = end_read c.args.ends c.args.column.now c.loop-state.state c.end_states-state-end.result c.index-column-state.result []
    c.loop-state-test.true c.end_states-state-end.ensures c.requires.whole c.index-column-state.is in
    rw add-one (c.merged-finds.ensures ∙ rw (c.finds_of.ensures, read, c.loop-state.invariant))
