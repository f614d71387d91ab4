use Rattle.list_viterbi.proofs.Common.{◌+◌, ◌*◌, ◌%◌, ◌-ℤ◌, pos, refl, arith, rules, w64, ints, to_z-of_z, fits_signed_from_abs, SFits}
use Rattle.list_viterbi.proofs.PickSteps.{item_room, turned_room, by_made}
use Rattle.list_viterbi.proofs.picking.picked_into.Goals as goal

pub picked-requires-clause-even_room : goal.picked-requires-clause-even_room
picked-requires-clause-even_room c =
    let fits : SFits w64 c.args.gain = search rules in
    rw (to_z-of_z w64 c.args.gain fits)
    (item_room c.args.column.now c.args.gain (2 * (c.args.state % 128)) c.index-column-before.result
    c.requires.whole (omega arith) c.requires.room c.index-column-before.is)

-- There is room to take the gain off the odd state's scores: the turned gain has the same size, and
-- each score in the column leaves room for that.
pub picked-requires-clause-odd_room : goal.picked-requires-clause-odd_room
picked-requires-clause-odd_room c =
    let gain = c.args.gain in
    let small = c.requires.small in
    let fits : SFits w64 gain = search rules in
    let turned_fits : SFits w64 (pos 0 -ℤ gain) = fits_signed_from_abs w64 _ (omega (arith, ints, small)) in
    rw (to_z-of_z w64 gain fits, to_z-of_z w64 (pos 0 -ℤ gain) turned_fits)
    (turned_room gain (pos 0 -ℤ gain) c.index-column-before-2.result refl
    (item_room c.args.column.now gain (2 * (c.args.state % 128) + 1) c.index-column-before-2.result
    c.requires.whole (omega arith) c.requires.room c.index-column-before-2.is))

-- The picks are the definition's for this state: it is reached from the two neighbouring states of
-- the column, the even one with the gain added and the odd one with it taken off.
pub returns : goal.returns
returns c =
    let gain = c.args.gain in
    let small = c.requires.small in
    let fits : SFits w64 gain = search rules in
    let turned_fits : SFits w64 (pos 0 -ℤ gain) = fits_signed_from_abs w64 _ (omega (arith, ints, small)) in
    by_made c.args.column.now gain (pos 0 -ℤ gain) c.args.k c.args.state (2 * (c.args.state % 128))
    c.index-column-before.result c.index-column-before-2.result c.picked.new.scores c.picked.result
    refl (omega (arith, c.requires.whole)) c.index-column-before.is c.index-column-before-2.is refl
    (rw (to_z-of_z w64 gain fits, to_z-of_z w64 (pos 0 -ℤ gain) turned_fits) at c.picked.ensures)
