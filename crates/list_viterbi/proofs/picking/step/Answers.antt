use Rattle.list_viterbi.proofs.Common.{◌∙◌, arith, w64, to_z-of_z, length-set, SFits, lane_code_of, HasPicks, picks_into}
use Rattle.list_viterbi.proofs.StateCodes.{code_small, gain_passed, given_gain_size}
use Rattle.list_viterbi.proofs.PickSteps.{gain_room, each_more}
use Rattle.list_viterbi.proofs.picking.step.Goals as goal

-- The gain of a state is small enough: it is the sum or difference of the two soft values, so its
-- size is at most that of both.
pub picked_into-requires-clause-small : goal.picked_into-requires-clause-small
picked_into-requires-clause-small c =
    let gain = c.gain_at-gain.result in
    let is = gain_passed c.args.first c.args.second gain (lane_code_of c.loop-state.state) c.ranges.first
    c.ranges.second (c.gain_at-gain.ensures
    ∙ c.gains-gains.ensures _ (code_small c.loop-state.state (omega arith))) in
    let size = given_gain_size c.args.first c.args.second gain _ is in
    let pair = c.requires.fits in
    rw (to_z-of_z w64 gain (record { sfits = c.gain_at-gain.type_inv })) (omega (arith, size, pair))

-- Each score in the column leaves room for the gain of this state, since the gain is at most the
-- size of both soft values together, and there is room for these.
pub picked_into-requires-clause-room : goal.picked_into-requires-clause-room
picked_into-requires-clause-room c =
    let gain = c.gain_at-gain.result in
    let is = gain_passed c.args.first c.args.second gain (lane_code_of c.loop-state.state) c.ranges.first
    c.ranges.second (c.gain_at-gain.ensures
    ∙ c.gains-gains.ensures _ (code_small c.loop-state.state (omega arith))) in
    let size = given_gain_size c.args.first c.args.second gain _ is in
    rw (to_z-of_z w64 gain (record { sfits = c.gain_at-gain.type_inv }))
    (λ u b. gain_room c.args.first c.args.second gain _ size (c.requires.room u b))

-- One state more has its picks: the gain is the one that the state's code and the two soft values
-- give, so what was picked is the definition's, and the states before it keep theirs.
pub loop-state-preserved : goal.loop-state-preserved
loop-state-preserved c =
    let f = c.args.first in
    let s = c.args.second in
    let t = c.loop-state.state in
    let gain = c.gain_at-gain.result in
    let inv = c.loop-state.invariant in
    let fits : SFits w64 f = c.ranges.first in
    let fits' : SFits w64 s = c.ranges.second in
    let is = gain_passed f s gain (lane_code_of t) fits fits'
    (c.gain_at-gain.ensures ∙ c.gains-gains.ensures _ (code_small t (omega arith))) in
    let scores = c.picked_into.new.scores in
    let chosen = c.picked_into.result in
    let here : HasPicks scores chosen (picks_into c.args.column.now f s c.args.k t) =
    rw (to_z-of_z w64 gain (record { sfits = c.gain_at-gain.type_inv }), is)
    at c.picked_into.ensures in
    rw (to_z-of_z w64 f fits, to_z-of_z w64 s fits') (record {
      whole = length-set c.loop-state.next t scores ∙ inv.whole;
      whole_choices = length-set c.loop-state.choices t chosen ∙ inv.whole_choices;
      each = each_more c.args.column.now c.loop-state.next c.loop-state.choices f s c.args.k t
          scores chosen (omega (arith, inv.whole)) (omega (arith, inv.whole_choices))
          (rw (to_z-of_z w64 f fits, to_z-of_z w64 s fits') at inv.each) here;
    })
