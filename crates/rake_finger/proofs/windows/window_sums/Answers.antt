use Rattle.rake_finger.proofs.Common.{ints, common_steps, ◌≡◌, ◌+◌, ◌*◌, ◌<◌, ◌≤◌, ◌∙◌, ℕ, ap, arith, unsigned_abs, length-set, origin}
use Rattle.rake_finger.proofs.Common.{sum_of, Pair, IsWithin, IsHeldInRing, symbol_chips, window_chips, window_symbols, finger_place}
use Rattle.rake_finger.proofs.Common.{despread_at, symbol_sum}
use Rattle.rake_finger.proofs.SoftValues.{symbol_is}
use Rattle.rake_finger.proofs.WindowSums.{bound_kept, chips_more, entry_more, most_symbols, pilot_more, pilot_whole, sum_fits, sum_kept}
use Rattle.rake_finger.proofs.WindowSums.{symbol_held, symbol_place, whole_symbols}
use Rattle.rake_finger.proofs.windows.window_sums.Goals as goal

pub overflow_add-pilot : goal.overflow_add-pilot
overflow_add-pilot c =
    let form = c.args.form in
    let sums = c.symbol_sums-sums in
    let chips = c.symbol_chips-chips.ensures in
    sum_fits form c.loop-k.k c.loop-k.pilot.i sums.result.plain.i
    (omega (arith, c.loop-k-test.true, c.window_symbols-k-end.ensures))
    c.loop-k.invariant.pilot_i (omega (arith, chips, sums.ensures.small.plain.0))

pub overflow_add-pilot-in-loop-k : goal.overflow_add-pilot-in-loop-k
overflow_add-pilot-in-loop-k c =
    let form = c.args.form in
    let sums = c.symbol_sums-sums in
    let chips = c.symbol_chips-chips.ensures in
    sum_fits form c.loop-k.k c.loop-k.pilot.q sums.result.plain.q
    (omega (arith, c.loop-k-test.true, c.window_symbols-k-end.ensures))
    c.loop-k.invariant.pilot_q (omega (arith, chips, sums.ensures.small.plain.1))

pub bounds-symbols-from : goal.bounds-symbols-from
bounds-symbols-from c = omega (arith, most_symbols c.args.form, c.loop-k-test.true, c.window_symbols-k-end.ensures)

-- One symbol more of the window is summed: its chips follow those of the symbols before it and are
-- still in the ring, its plain sum goes on with the pilot's, and the sum with the row's signs is
-- stored as the symbol's own, each within its bound.
pub loop-k-preserved : goal.loop-k-preserved
loop-k-preserved c =
    let inv = c.loop-k.invariant in
    let ring = c.args.ring.now in
    let finger = c.args.finger.now in
    let form = c.args.form in
    let start = c.args.start in
    let window = c.args.window in
    let k = c.loop-k.k in
    let sums = c.symbol_sums-sums in
    let chips = c.symbol_chips-chips.ensures in
    let first : ℕ = c.place_of.result + c.from.result in
    let place : ℕ = first + c.from-in-loop-k.result in
    let far = ap (λ (n : ℕ). n * k) chips in
    let wide = ap (λ (n : ℕ). n * window) c.window_chips.ensures in
    let begun : first ≡ finger_place finger start + window_chips form * window = omega (arith, wide) in
    let at : place ≡ first + symbol_chips form * k = omega (arith, far) in
    let few : k < window_symbols form = omega (arith, c.loop-k-test.true, c.window_symbols-k-end.ensures) in
    let held_all : IsHeldInRing ring place (symbol_chips form) =
    symbol_held ring finger form start window k place c.requires.ring c.requires.window few
    (omega (arith, at, begun)) in
    let plain_i : unsigned_abs sums.result.plain.i ≤ 65536 * symbol_chips form =
    omega (arith, chips, sums.ensures.small.plain.0) in
    let plain_q : unsigned_abs sums.result.plain.q ≤ 65536 * symbol_chips form =
    omega (arith, chips, sums.ensures.small.plain.1) in
    let covered_i : unsigned_abs sums.result.covered.i ≤ 65536 * symbol_chips form =
    omega (arith, chips, sums.ensures.small.covered.0) in
    let covered_q : unsigned_abs sums.result.covered.q ≤ 65536 * symbol_chips form =
    omega (arith, chips, sums.ensures.small.covered.1) in
    let index : c.from-in-loop-k-2.result ≡ k = omega arith in
    rw index (record {
      pilot = λ samples held.
          let taken = held_all.taken in
          let t = held.taken in
          let is : sums.result.plain ≡
          sum_of (despread_at samples finger.phase (first + symbol_chips form * k)
          (symbol_chips form)) =
          (sums.ensures.sums samples held).plain
          ∙ ap (λ (n : ℕ × ℕ). sum_of (despread_at samples finger.phase n.0 n.1)) (λ i. (at i, chips i)) in
          pilot_more samples finger.phase first (symbol_chips form * k) (symbol_chips form)
          (symbol_chips form * (k + 1)) c.loop-k.pilot sums.result.plain _ _
          (omega (arith, taken, t, at)) (chips_more form k) (inv.pilot samples held) is
          (sum_kept form k c.loop-k.pilot.i sums.result.plain.i few inv.pilot_i plain_i)
          (sum_kept form k c.loop-k.pilot.q sums.result.plain.q few inv.pilot_q plain_q);
      symbols = λ samples held.
          entry_more (λ (j : ℕ) (p : Pair). p ≡
          symbol_sum samples finger form start (window_symbols form * window + j))
          c.loop-k.symbols k sums.result.covered origin (omega (arith, inv.long, few, most_symbols form))
          (inv.symbols samples held)
          (symbol_is samples finger form start (window_symbols form * window + k) place
          c.symbol_chips-chips.result sums.result.covered chips
          (rw chips (symbol_place form (finger_place finger start) window k place (omega (arith, at, begun))))
          (sums.ensures.sums samples held).covered);
      pilot_i = bound_kept form k c.loop-k.pilot.i sums.result.plain.i few inv.pilot_i plain_i;
      pilot_q = bound_kept form k c.loop-k.pilot.q sums.result.plain.q few inv.pilot_q plain_q;
      small =
          entry_more (λ (j : ℕ) (p : Pair). IsWithin (65536 * symbol_chips form) p)
          c.loop-k.symbols k sums.result.covered origin (omega (arith, inv.long, few, most_symbols form))
          inv.small (covered_i, covered_q);
      long = length-set c.loop-k.symbols k _ ∙ inv.long;
    })

pub returns-clause-pilot : goal.returns-clause-pilot
returns-clause-pilot c = λ samples held.
    let form = c.args.form in
    let wide = ap (λ (n : ℕ). n * c.args.window) c.window_chips.ensures in
    pilot_whole samples c.args.finger.now form c.args.start c.args.window _
    (symbol_chips form * c.loop-k.k) c.loop-k.pilot (c.loop-k.invariant.pilot samples held)
    (whole_symbols form c.loop-k.k
    (omega (arith, c.loop-k-test.false, c.loop-k.auto.k-end, c.window_symbols-k-end.ensures)))
    (omega (arith, wide))

pub returns-clause-small : goal.returns-clause-small
returns-clause-small c = grind (ints, arith, common_steps)

pub overflow_mul-chips : goal.overflow_mul-chips
overflow_mul-chips c = grind (ints, arith, common_steps)

pub symbol_sums-sums-requires-clause-signs : goal.symbol_sums-sums-requires-clause-signs
symbol_sums-sums-requires-clause-signs c = grind (ints, arith, common_steps)

pub returns-clause-symbols : goal.returns-clause-symbols
returns-clause-symbols c = grind (ints, arith, common_steps)

pub returns-clause-pilot_i : goal.returns-clause-pilot_i
returns-clause-pilot_i c = grind (ints, arith, common_steps)

pub symbol_sums-sums-requires-clause-whole : goal.symbol_sums-sums-requires-clause-whole
symbol_sums-sums-requires-clause-whole c = grind (ints, arith, common_steps)

pub symbol_sums-sums-requires-clause-held : goal.symbol_sums-sums-requires-clause-held
symbol_sums-sums-requires-clause-held c = grind (ints, arith, common_steps)

pub returns-clause-pilot_q : goal.returns-clause-pilot_q
returns-clause-pilot_q c = grind (ints, arith, common_steps)
