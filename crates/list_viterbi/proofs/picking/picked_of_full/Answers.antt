use Rattle.list_viterbi.proofs.Common.{◌≡◌, ◌+◌, ◌-◌, ◌*◌, ◌∷◌, ◌++◌, [], ℕ, length, get_or, refl, sym, ap, ◌∙◌, arith, rules, to_z, of_z}
use Rattle.list_viterbi.proofs.Common.{pos, ◌+ℤ◌, ℤ, Bool, w64, length-append, int_lt, to_z-of_z, SFits, digit, taken_of, digit_le}
use Rattle.list_viterbi.proofs.Common.{bool_byte-digit}
use Rattle.list_viterbi.proofs.Masks.{weight_most, weight_next}
use Rattle.list_viterbi.proofs.Picks.{picked_none, picked_next, picked_all}
use Rattle.list_viterbi.proofs.picking.picked_of_full.Goals as goal

pub loop-n-init : goal.loop-n-init
loop-n-init c =
    rw (to_z-of_z w64 c.args.even_gain c.ranges.even_gain, to_z-of_z w64 c.args.odd_gain c.ranges.odd_gain, c.clear.ensures)
    (record {
      before = omega arith;
      many = refl;
      power = refl;
      weight_most = omega arith;
      small = omega arith;
      picked = picked_none c.args.k _ _;
    })

pub overflow_add-j : goal.overflow_add-j
overflow_add-j c =
    let one = c.from-j.ensures ∙ bool_byte-digit c.greater-score.result.1 in
    let few = digit_le c.greater-score.result.1 in
    omega (arith, one, few, c.loop-n.invariant.before, c.loop-n-test.true, c.requires.few)

-- One pick more out of lists that are long enough is one step of their merge: the greater of both
-- heads is taken, the even one at a tie, and of n picks those that weren't the odd list's were the
-- even one's, so its place is n - j.
pub loop-n-preserved : goal.loop-n-preserved
loop-n-preserved c =
    let inv = c.loop-n.invariant in
    let even = c.args.even.now in
    let odd = c.args.odd.now in
    let g = to_z w64 (of_z w64 c.args.even_gain) in
    let h = to_z w64 (of_z w64 c.args.odd_gain) in
    let j = c.loop-n.j in
    let n = c.loop-n.n in
    let i = n - j in
    let scores = c.loop-n.scores in
    let choices = c.loop-n.choices in
    let weight = c.loop-n.weight in
    let before = inv.before in
    let many = inv.many in
    let small = inv.small in
    let x = to_z w64 (of_z w64 c.sum_at.result) in
    let y = to_z w64 (of_z w64 c.sum_at-in-loop-n.result) in
    let b = c.greater-score.result.1 in
    let score = c.greater-score.result.0 in
    let value = to_z w64 (of_z w64 score) in
    let fits : SFits w64 score = search rules in
    let even_sum = get_or even i (pos 0) +ℤ g in
    let odd_sum = get_or odd j (pos 0) +ℤ h in
    let x_is : x ≡ even_sum = to_z-of_z w64 c.sum_at.result (record { sfits = c.sum_at.type_inv })
    ∙ c.sum_at.ensures.value in
    let y_is : y ≡ odd_sum = to_z-of_z w64 c.sum_at-in-loop-n.result
    (record { sfits = c.sum_at-in-loop-n.type_inv }) ∙ c.sum_at-in-loop-n.ensures.value in
    let b_is : b ≡ int_lt even_sum odd_sum = c.greater-score.ensures.choice
    ∙ ap (λ (z : ℤ). int_lt z y) x_is ∙ ap (int_lt even_sum) y_is in
    let value_is : value ≡ taken_of b even_sum odd_sum = to_z-of_z w64 score fits
    ∙ c.greater-score.ensures.score
    ∙ ap (λ (t : Bool). taken_of t x y) (sym c.greater-score.ensures.choice)
    ∙ ap (λ (z : ℤ). taken_of b z y) x_is ∙ ap (taken_of b even_sum) y_is in
    let one : c.from-j.result ≡ digit b = c.from-j.ensures ∙ bool_byte-digit b in
    let few = digit_le b in
    let most_weight = c.weight_of-choices.ensures.most in
    let size = length-append scores (value ∷ []) in
    let power = weight_next weight (weight * 2) scores value inv.power (omega arith) in
    let most = weight_most (length (scores ++ value ∷ []))
    (omega (arith, size, many, c.loop-n-test.true, c.requires.few)) in
    rw c.push.ensures (record {
      before = omega (arith, before, one, few);
      many = omega (arith, size, many);
      power = power;
      weight_most = omega (arith, power, most);
      small = omega (arith, small, most_weight);
      picked = picked_next c.args.k i j n (n + 1 - (j + c.from-j.result)) (j + c.from-j.result) even
          odd g h scores choices (choices + c.weight_of-choices.result) weight value b inv.power
          (omega (arith, before, c.loop-n-test.true, c.requires.even_full))
          (omega (arith, before, c.loop-n-test.true, c.requires.odd_full))
          b_is value_is (ap (λ (w : ℕ). choices + w) c.weight_of-choices.ensures.value)
          (omega (arith, before, one, few)) (omega (arith, one)) inv.picked;
    })

pub returns : goal.returns
returns c =
    let all = picked_all c.args.k (c.loop-n.n - c.loop-n.j) c.loop-n.j c.loop-n.n _ _
    c.loop-n.scores c.loop-n.choices (omega arith) c.loop-n.invariant.picked in
    rw (to_z-of_z w64 c.args.even_gain c.ranges.even_gain, to_z-of_z w64 c.args.odd_gain c.ranges.odd_gain) at all

pub sum_at-requires-clause-room : goal.sum_at-requires-clause-room
sum_at-requires-clause-room c = rw (to_z-of_z w64 c.args.even_gain c.ranges.even_gain) c.requires.even_room

pub sum_at-requires-in-loop-n-clause-room : goal.sum_at-requires-in-loop-n-clause-room
sum_at-requires-in-loop-n-clause-room c = rw (to_z-of_z w64 c.args.odd_gain c.ranges.odd_gain) c.requires.odd_room
