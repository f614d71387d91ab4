use Rattle.rake_finger.proofs.Common.{ints, common_steps, ◌≡◌, ◌≢◌, ◌+◌, ◌*◌, ◌<◌, ◌≤◌, ℕ, List, ℤ, get_or, pos, length, sym, ap, ◌∙◌, Pair}
use Rattle.rake_finger.proofs.Common.{arith, unsigned_abs, get_or-set_other, origin, Sample, kept_sum_back, kept_sum_fits, HoldsLast, soft}
use Rattle.rake_finger.proofs.Common.{window_symbols, pilot_sum, symbol_sum, turned_part}
use Rattle.rake_finger.proofs.Adding.{window_of, symbol_within, soft_bound-most, IsAdded-more}
use Rattle.rake_finger.proofs.SoftValues.{soft_is, value_small}
use Rattle.rake_finger.proofs.combining.add_window.Goals as goal

-- Adding a symbol's value to the soft value that the other fingers gave doesn't overflow: what
-- stands there leaves room for one value of the form's greatest size, and this value is no greater.
pub overflow_add-out : goal.overflow_add-out
overflow_add-out c =
    let form = c.args.form in
    let window = c.args.window in
    let symbol = c.loop-symbol.symbol in
    let sums = c.window_sums-sums in
    let k = c.from.result in
    let at : c.from-in-loop-symbol.result ≡ symbol = omega arith in
    let first = ap (λ (n : ℕ). n * window) c.window_symbols.ensures in
    let within : k < window_symbols form = omega (arith, first, c.window_symbols.ensures) in
    let rest = ap (λ (z : ℤ). unsigned_abs z) (c.loop-symbol.invariant.rest symbol (omega arith)) in
    let small = c.requires.small.within symbol in
    let bound =
    value_small form sums.result.pilot (get_or sums.result.symbols k origin) c.turned_by.result
    sums.ensures.pilot_i sums.ensures.pilot_q (sums.ensures.small k within)
    c.turned_by.ensures.bound in
    let most = soft_bound-most form in
    rw at
    (kept_sum_fits (get_or c.loop-symbol.out symbol (pos 0)) c.turned_by.result
    (omega (arith, rest, small, bound, most)))

pub bounds-out-from : goal.bounds-out-from
bounds-out-from c =
    let first = ap (λ (n : ℕ). n * c.args.window) c.window_symbols.ensures in
    let high : c.loop-symbol.symbol < window_symbols c.args.form * c.args.window + window_symbols c.args.form =
    omega arith in
    let within = symbol_within c.args.form c.args.window c.loop-symbol.symbol c.requires.window high in
    omega (arith, within)

-- One symbol more of the window is added up: its value is made of the window's pilot sum and the
-- symbol's own sum, which are those of the definition, and the soft values of all later symbols
-- stay as they were.
pub loop-symbol-preserved : goal.loop-symbol-preserved
loop-symbol-preserved c =
    let ring = c.args.ring.now in
    let finger = c.args.finger.now in
    let form = c.args.form in
    let start = c.args.start in
    let window = c.args.window in
    let symbol = c.loop-symbol.symbol in
    let out = c.loop-symbol.out in
    let sums = c.window_sums-sums in
    let k = c.from.result in
    let sum = get_or sums.result.symbols k origin in
    let value = c.turned_by.result in
    let inv = c.loop-symbol.invariant in
    let rest = ap (λ (z : ℤ). unsigned_abs z) (inv.rest symbol (omega arith)) in
    let small = c.requires.small.within symbol in
    let most = soft_bound-most form in
    let at : c.from-in-loop-symbol.result ≡ symbol = omega arith in
    let first = ap (λ (n : ℕ). n * window) c.window_symbols.ensures in
    let low : window_symbols form * window ≤ symbol = omega arith in
    let high : symbol < window_symbols form * window + window_symbols form = omega arith in
    let place : window_symbols form * window + k ≡ symbol = omega (arith, first) in
    let few : k < window_symbols form = omega (arith, place, high) in
    let bound =
    value_small form sums.result.pilot sum value sums.ensures.pilot_i sums.ensures.pilot_q
    (sums.ensures.small k few) c.turned_by.ensures.bound in
    let of : window ≡ _ = sym (window_of form window symbol low high) in
    let within : symbol < length out = let w = symbol_within form window symbol c.requires.window high in omega arith in
    let value_is : (samples : List Sample) → HoldsLast ring samples →
    value ≡ soft samples finger form start symbol =
    λ samples held. c.turned_by.ensures.value
    ∙ ap (λ (p : Pair). turned_part p sum)
    (sums.ensures.pilot samples held ∙ ap (pilot_sum samples finger form start) of)
    ∙ ap (turned_part (pilot_sum samples finger form start _))
    (sums.ensures.symbols samples held k few ∙ ap (symbol_sum samples finger form start) place)
    ∙ soft_is samples finger form start symbol in
    record {
      added = λ first h. rw at
          (IsAdded-more ring finger form start symbol first out value _ (inv.added first h) within
          value_is bound
          (kept_sum_back (get_or out symbol (pos 0)) value (omega (arith, rest, small, bound, most))));
      rest = λ j le. let ne : j ≢ c.from-in-loop-symbol.result = omega (arith, le) in
          get_or-set_other out c.from-in-loop-symbol.result j _ (pos 0) ne ∙ inv.rest j (omega (arith, le));
    }

pub returns : goal.returns
returns c = λ first h.
    let form = c.args.form in
    let last = ap (λ (n : ℕ). n * c.args.window) c.window_symbols.ensures in
    let done : window_symbols form * (c.args.window + 1) ≡ c.loop-symbol.symbol = omega arith in
    rw done (c.loop-symbol.invariant.added first h)

pub turned_by-requires-clause-symbol_i : goal.turned_by-requires-clause-symbol_i
turned_by-requires-clause-symbol_i c = grind (ints, arith, common_steps)

pub turned_by-requires-clause-symbol_q : goal.turned_by-requires-clause-symbol_q
turned_by-requires-clause-symbol_q c = grind (ints, arith, common_steps)

pub loop-symbol-init : goal.loop-symbol-init
loop-symbol-init c = grind (ints, arith, common_steps)

pub overflow_mul-first : goal.overflow_mul-first
overflow_mul-first c = grind (ints, arith, common_steps)

pub turned_by-requires-clause-pilot_i : goal.turned_by-requires-clause-pilot_i
turned_by-requires-clause-pilot_i c = grind (ints, arith, common_steps)

pub turned_by-requires-clause-pilot_q : goal.turned_by-requires-clause-pilot_q
turned_by-requires-clause-pilot_q c = grind (ints, arith, common_steps)
