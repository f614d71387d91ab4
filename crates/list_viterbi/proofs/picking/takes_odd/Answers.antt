use Rattle.list_viterbi.proofs.Common.{sym, arith, rules, w64, to_z-of_z, SFits}
use Rattle.list_viterbi.proofs.Picks.{odd_over, odd_only, odd_by_sum}
use Rattle.list_viterbi.proofs.picking.takes_odd.Goals as goal

pub returns-then-j-len : goal.returns-then-j-len
returns-then-j-len c =
    sym (odd_over c.args.i c.args.j c.args.even_gain c.args.odd_gain c.args.even.now c.args.odd.now (omega arith))

pub returns-then-i-len : goal.returns-then-i-len
returns-then-i-len c =
    sym (odd_only c.args.i c.args.j c.args.even_gain c.args.odd_gain c.args.even.now c.args.odd.now
    (omega arith) (omega arith))

-- Where both lists have a codeword left, the odd one comes next just where its sum with its gain is
-- greater: at a tie the even one goes first.
pub returns : goal.returns
returns c =
    let fits : SFits w64 c.sum_at.result = search rules in
    let fits' : SFits w64 c.sum_at-2.result = search rules in
    let even_fits : SFits w64 c.args.even_gain = search rules in
    let odd_fits : SFits w64 c.args.odd_gain = search rules in
    rw (
      to_z-of_z w64 c.sum_at.result fits,
      to_z-of_z w64 c.sum_at-2.result fits',
      c.sum_at.ensures.value,
      c.sum_at-2.ensures.value,
      to_z-of_z w64 c.args.even_gain even_fits,
      to_z-of_z w64 c.args.odd_gain odd_fits,
    )
    (sym (odd_by_sum c.args.i c.args.j c.args.even_gain c.args.odd_gain c.args.even.now
    c.args.odd.now (omega arith) (omega arith)))

pub sum_at-requires-clause-room : goal.sum_at-requires-clause-room
sum_at-requires-clause-room c = rw (to_z-of_z w64 c.args.even_gain c.ranges.even_gain) c.requires.even_room

pub sum_at-requires-2-clause-room : goal.sum_at-requires-2-clause-room
sum_at-requires-2-clause-room c = rw (to_z-of_z w64 c.args.odd_gain c.ranges.odd_gain) c.requires.odd_room
