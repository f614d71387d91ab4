use Rattle.rake_finger.proofs.Common.{common_steps, ◌≡◌, ◌+◌, ◌*◌, ◌/◌, ◌≤◌, ℕ, ap, ◌∙◌, arith, to_z, of_z, w64, unsigned_abs, ints, Pair}
use Rattle.rake_finger.proofs.Common.{finger_place, pilot_sum, symbol_sum, symbol_chips, window_chips, turned_part, soft_bound}
use Rattle.rake_finger.proofs.SoftValues.{pilot_is, pilot_most, soft_bounded, soft_is, symbol_is, symbol_most}
use Rattle.rake_finger.proofs.values.soft.Goals as goal

pub turned_by-requires-clause-pilot_i : goal.turned_by-requires-clause-pilot_i
turned_by-requires-clause-pilot_i c =
    omega (arith, c.covered_sum-pilot.ensures.i_bound, c.window_chips-wide.ensures, pilot_most c.args.form)

pub turned_by-requires-clause-pilot_q : goal.turned_by-requires-clause-pilot_q
turned_by-requires-clause-pilot_q c =
    omega (arith, c.covered_sum-pilot.ensures.q_bound, c.window_chips-wide.ensures, pilot_most c.args.form)

pub turned_by-requires-clause-symbol_i : goal.turned_by-requires-clause-symbol_i
turned_by-requires-clause-symbol_i c =
    omega (arith, c.covered_sum-sum.ensures.i_bound, c.symbol_chips-chips.ensures, symbol_most c.args.form)

pub turned_by-requires-clause-symbol_q : goal.turned_by-requires-clause-symbol_q
turned_by-requires-clause-symbol_q c =
    omega (arith, c.covered_sum-sum.ensures.q_bound, c.symbol_chips-chips.ensures, symbol_most c.args.form)

-- The soft value is the definition's: the pilot's sum is that of the window in which the symbol
-- lies, the symbol's sum is that of its own chips, and the second turned by the first is what is
-- answered.
pub returns-clause-value : goal.returns-clause-value
returns-clause-value c = λ samples held.
    let finger = c.args.finger.now in
    let form = c.args.form in
    let chips = c.symbol_chips-chips in
    let wide = c.window_chips-wide in
    let first = c.place_of-first.result in
    let window : ℕ = chips.result * c.args.symbol / wide.result in
    let at : first + c.from.result ≡ finger_place finger c.args.start + wide.result * window = omega arith in
    let place : first + c.from-2.result ≡
    finger_place finger c.args.start + chips.result * c.args.symbol = omega arith in
    let same : to_z w64 (of_z w64 c.turned_by.result) ≡ c.turned_by.result = omega (arith, ints) in
    let pilot : c.covered_sum-pilot.result ≡ pilot_sum samples finger form c.args.start window =
    pilot_is samples finger form c.args.start window _ _ c.covered_sum-pilot.result wide.ensures at
    (c.covered_sum-pilot.ensures.value samples held) in
    let sum : c.covered_sum-sum.result ≡
    symbol_sum samples finger form c.args.start c.args.symbol =
    symbol_is samples finger form c.args.start c.args.symbol _ _ c.covered_sum-sum.result
    chips.ensures place (c.covered_sum-sum.ensures.value samples held) in
    same ∙ c.turned_by.ensures.value
    ∙ ap (turned_part c.covered_sum-pilot.result) sum
    ∙ ap (λ (p : Pair). turned_part p (symbol_sum samples finger form c.args.start c.args.symbol)) pilot
    ∙ rw (chips.ensures, wide.ensures) (soft_is samples finger form c.args.start c.args.symbol)

-- A soft value is within its form's bound: both parts of the pilot's sum and of the symbol's are at
-- most 65,536 for each chip, and the value is a sum of two products of these.
pub returns-clause-bound : goal.returns-clause-bound
returns-clause-bound c =
    let p = c.covered_sum-pilot in
    let s = c.covered_sum-sum in
    let chips = c.symbol_chips-chips.ensures in
    let wide = c.window_chips-wide.ensures in
    let p_i : unsigned_abs p.result.i ≤ 65536 * window_chips c.args.form = rw wide at p.ensures.i_bound in
    let p_q : unsigned_abs p.result.q ≤ 65536 * window_chips c.args.form = rw wide at p.ensures.q_bound in
    let s_i : unsigned_abs s.result.i ≤ 65536 * symbol_chips c.args.form = rw chips at s.ensures.i_bound in
    let s_q : unsigned_abs s.result.q ≤ 65536 * symbol_chips c.args.form = rw chips at s.ensures.q_bound in
    let sum : unsigned_abs p.result.i * unsigned_abs s.result.i +
    unsigned_abs p.result.q * unsigned_abs s.result.q ≤ soft_bound c.args.form =
    soft_bounded c.args.form (unsigned_abs p.result.i) (unsigned_abs s.result.i)
    (unsigned_abs p.result.q) (unsigned_abs s.result.q) p_i s_i p_q s_q in
    omega (arith, ints, sum)

pub overflow_mul-wide : goal.overflow_mul-wide
overflow_mul-wide c = grind (ints, arith, common_steps)

pub covered_sum-sum-requires-clause-held : goal.covered_sum-sum-requires-clause-held
covered_sum-sum-requires-clause-held c = grind (ints, arith, common_steps)

pub overflow_mul-chips-2 : goal.overflow_mul-chips-2
overflow_mul-chips-2 c = grind (ints, arith, common_steps)
