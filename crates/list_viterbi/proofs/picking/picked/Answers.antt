use Rattle.list_viterbi.proofs.Common.{◌≡◌, ◌+◌, ◌*◌, ◌<◌, ◌≤◌, ◌∷◌, ◌++◌, [], true, false, drop, length, refl, sym, ◌∙◌, arith, to_z, of_z}
use Rattle.list_viterbi.proofs.Common.{length-append, w64, to_z-of_z, second_is_next, pick_score, picks_from}
use Rattle.list_viterbi.proofs.Masks.{weight_most, weight_next}
use Rattle.list_viterbi.proofs.Picks.{odd_has, picked_none, picked_odd, picked_even, picked_over, picked_all}
use Rattle.list_viterbi.proofs.picking.picked.Goals.{then-takes_odd, else-takes_odd+then-i-len, else-takes_odd+else-i-len}
use Rattle.list_viterbi.proofs.picking.picked.Goals as goal

pub loop-n-init : goal.loop-n-init
loop-n-init c =
    rw (to_z-of_z w64 c.args.even_gain c.ranges.even_gain, to_z-of_z w64 c.args.odd_gain c.ranges.odd_gain, c.clear.ensures)
    (record {
      even_place = omega arith;
      odd_place = omega arith;
      few = omega arith;
      power = refl;
      weight_most = omega arith;
      small = omega arith;
      picked = picked_none c.args.k _ _;
    })

pub sum_at-requires-clause-place : goal.sum_at-requires-clause-place
sum_at-requires-clause-place c =
    odd_has c.loop-n.i c.loop-n.j (to_z w64 (of_z w64 c.args.even_gain))
    (to_z w64 (of_z w64 c.args.odd_gain)) c.args.even.now c.args.odd.now
    c.loop-n.invariant.odd_place (sym c.if-takes_odd.ensures)

-- One pick more is one step of the merge of both lists: the odd one's head is taken if it comes
-- next, otherwise the even one's head, and nothing is taken if the even list has also ended.
pub loop-n-preserved : goal.loop-n-preserved
loop-n-preserved c =
    let even = c.args.even.now in
    let odd = c.args.odd.now in
    let g = to_z w64 (of_z w64 c.args.even_gain) in
    let h = to_z w64 (of_z w64 c.args.odd_gain) in
    let i = c.loop-n.i in
    let j = c.loop-n.j in
    let n = c.loop-n._n in
    let scores = c.loop-n.scores in
    let choices = c.loop-n.choices in
    let weight = c.loop-n.weight in
    let inv = c.loop-n.invariant in
    let few = inv.few in
    let small = inv.small in
    elim c.if-takes_odd.branch [
      | then-takes_odd w ↦
          let next : second_is_next pick_score (drop i (picks_from 0 g 0 even))
          (drop j (picks_from 1 h 0 odd)) ≡ true = sym w.if-takes_odd.ensures in
          let within = odd_has i j g h even odd inv.odd_place next in
          let value = to_z w64 (of_z w64 w.sum_at.result) in
          let value_is = to_z-of_z w64 w.sum_at.result (record { sfits = w.sum_at.type_inv })
          ∙ w.sum_at.ensures.value in
          let size = length-append scores (value ∷ []) in
          let power = weight_next weight (weight * 2) scores value inv.power (omega arith) in
          let most = weight_most (length (scores ++ value ∷ []))
          (omega (arith, size, few, c.loop-n-test.true, c.requires.few)) in
          rw (w.choices-is, w.weight-is, w.scores-is, w.i-is, w.j-is, w.push.ensures) (record {
            even_place = inv.even_place;
            odd_place = omega (arith, within);
            few = omega (arith, size, few);
            power = power;
            weight_most = omega (arith, power, most);
            small = omega (arith, small);
            picked = picked_odd c.args.k i j n even odd g h scores choices (choices + weight) weight
                value inv.power within next value_is refl inv.picked;
          })
      | else-takes_odd+then-i-len w ↦
          let next : second_is_next pick_score (drop i (picks_from 0 g 0 even))
          (drop j (picks_from 1 h 0 odd)) ≡ false = sym w.if-takes_odd.ensures in
          let within : i < length even = omega (arith, w.if-i-len.true, w.len-else-takes_odd.ensures.value) in
          let value = to_z w64 (of_z w64 w.sum_at-then-i-len.result) in
          let value_is = to_z-of_z w64 w.sum_at-then-i-len.result
          (record { sfits = w.sum_at-then-i-len.type_inv }) ∙ w.sum_at-then-i-len.ensures.value in
          let size = length-append scores (value ∷ []) in
          let power = weight_next weight (weight * 2) scores value inv.power (omega arith) in
          let most = weight_most (length (scores ++ value ∷ []))
          (omega (arith, size, few, c.loop-n-test.true, c.requires.few)) in
          rw (w.choices-is, w.weight-is, w.scores-is, w.i-is, w.j-is, w.push-then-i-len.ensures)
          (record {
            even_place = omega (arith, within);
            odd_place = inv.odd_place;
            few = omega (arith, size, few);
            power = power;
            weight_most = omega (arith, power, most);
            small = omega (arith, small);
            picked =
                picked_even c.args.k i j n even odd g h scores choices value within next value_is
                inv.picked;
          })
      | else-takes_odd+else-i-len w ↦
          let next : second_is_next pick_score (drop i (picks_from 0 g 0 even))
          (drop j (picks_from 1 h 0 odd)) ≡ false = sym w.if-takes_odd.ensures in
          let over : length even ≤ i = omega (arith, w.if-i-len.false, w.len-else-takes_odd.ensures.value) in
          rw (w.choices-is, w.weight-is, w.scores-is, w.i-is, w.j-is) (record {
            even_place = inv.even_place;
            odd_place = inv.odd_place;
            few = omega (arith, few);
            power = inv.power;
            weight_most = inv.weight_most;
            small = small;
            picked =
                picked_over c.args.k i j n even g (picks_from 1 h 0 odd) scores choices over next
                inv.picked;
          })
    ]

pub returns : goal.returns
returns c =
    let all = picked_all c.args.k c.loop-n.i c.loop-n.j c.loop-n._n _ _ c.loop-n.scores
    c.loop-n.choices (omega arith) c.loop-n.invariant.picked in
    rw (to_z-of_z w64 c.args.even_gain c.ranges.even_gain, to_z-of_z w64 c.args.odd_gain c.ranges.odd_gain) at all

pub sum_at-requires-clause-room : goal.sum_at-requires-clause-room
sum_at-requires-clause-room c = rw (to_z-of_z w64 c.args.odd_gain c.ranges.odd_gain) c.requires.odd_room

pub sum_at-requires-then-i-len-clause-room : goal.sum_at-requires-then-i-len-clause-room
sum_at-requires-then-i-len-clause-room c = rw (to_z-of_z w64 c.args.even_gain c.ranges.even_gain) c.requires.even_room

pub takes_odd-requires-clause-even_room : goal.takes_odd-requires-clause-even_room
takes_odd-requires-clause-even_room c = rw (to_z-of_z w64 c.args.even_gain c.ranges.even_gain) c.requires.even_room

pub takes_odd-requires-clause-odd_room : goal.takes_odd-requires-clause-odd_room
takes_odd-requires-clause-odd_room c = rw (to_z-of_z w64 c.args.odd_gain c.ranges.odd_gain) c.requires.odd_room

pub picked_of_full-requires-clause-even_room : goal.picked_of_full-requires-clause-even_room
picked_of_full-requires-clause-even_room c = rw (to_z-of_z w64 c.args.even_gain c.ranges.even_gain) c.requires.even_room

pub picked_of_full-requires-clause-odd_room : goal.picked_of_full-requires-clause-odd_room
picked_of_full-requires-clause-odd_room c = rw (to_z-of_z w64 c.args.odd_gain c.ranges.odd_gain) c.requires.odd_room
