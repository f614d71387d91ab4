use Rattle.list_viterbi.proofs.Common.{◌≡◌, ◌+ℤ◌, ℤ, get_or, pos, ap, ◌∙◌, sym, rules, arith, w64, ints, to_z-of_z, fits_signed_from_abs}
use Rattle.list_viterbi.proofs.Common.{get_or_from_slice_get, SFits, sum_fits}
use Rattle.list_viterbi.proofs.picking.sum_at.Goals as goal

-- The sum fits into 64 bits: the score at this place leaves room for the gain.
pub overflow_add-result : goal.overflow_add-result
overflow_add-result c =
    let fits : SFits w64 c.get.result.now = search rules in
    let fits' : SFits w64 c.args.gain = search rules in
    let read : get_or c.args.scores.now c.args.i (pos 0) ≡ c.get.result.now =
    get_or_from_slice_get c.args.scores.now c.args.i c.get.result.now (pos 0) c.get.ensures.value in
    let room = rw read at (c.requires.room c.args.i (pos 0) c.requires.place) in
    rw (to_z-of_z w64 c.get.result.now fits, to_z-of_z w64 c.args.gain fits')
    (fits_signed_from_abs w64 _ (omega (arith, ints, room)))

pub returns-clause-value : goal.returns-clause-value
returns-clause-value c =
    let read : get_or c.args.scores.now c.args.i (pos 0) ≡ c.get.result.now =
    get_or_from_slice_get c.args.scores.now c.args.i c.get.result.now (pos 0) c.get.ensures.value in
    let room = rw read at (c.requires.room c.args.i (pos 0) c.requires.place) in
    sum_fits c.get.result.now c.args.gain room ∙ ap (λ (z : ℤ). z +ℤ c.args.gain) (sym read)
