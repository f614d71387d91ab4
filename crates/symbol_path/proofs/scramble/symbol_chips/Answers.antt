use Rattle.symbol_path.proofs.Common.{◌≡◌, ◌≢◌, ◌<◌, ◌+◌, ◌*◌, ℕ, length, get_or, set, false, below_more, arith, ap, ◌∙◌, get_or-set_same}
use Rattle.symbol_path.proofs.Common.{get_or-set_other, after, long_chip}
use Rattle.symbol_path.proofs.SymbolChips.{long_chip-same, later_by_symbol, symbol_chips_all}
use Rattle.symbol_path.proofs.scramble.symbol_chips.Goals as goal

-- One symbol more has its chip of the long code: it is the chip of the state that is 64 i chips
-- later, the chips before it stay, and 64 chips further on is where the next symbol begins.
pub loop-chip-preserved : goal.loop-chip-preserved
loop-chip-preserved c =
    let at = c.loop-chip.state in
    let i = c.loop-chip.chip-index in
    let out = c.loop-chip.out in
    let within : i < length out = omega arith in
    let zeroth : 64 * i + 0 ≡ 64 * i = omega arith in
    let same : after at 0 ≡ after c.args.state.now (64 * i) = c.loop-chip.invariant.later 0 ∙
    ap (after c.args.state.now) zeroth in
    record {
      later = λ n.
          ap (λ (s : ℕ). after s n) c.step_symbol.ensures.later
          ∙ later_by_symbol c.args.state.now at i n (c.loop-chip.invariant.later (64 + n));
      state = λ h. c.step_symbol.ensures.state;
      chips = below_more (λ k. get_or (set out i c.chip.result) k false ≡
          long_chip c.args.state.now c.args.mask (64 * k)) i
          (λ k lt. let other : k ≢ i = omega (arith, lt) in
          get_or-set_other out i k c.chip.result false other ∙ c.loop-chip.invariant.chips k lt)
          (get_or-set_same out i c.chip.result false within ∙ c.chip.ensures ∙
          long_chip-same at c.args.state.now c.args.mask 0 (64 * i) same);
    }

pub returns-clause-chips : goal.returns-clause-chips
returns-clause-chips c =
    symbol_chips_all c.args.state.now c.args.mask (length c.args.out.now) c.loop-chip.out
    c.loop-chip.auto.out (λ k lt. c.loop-chip.invariant.chips k (omega (arith, lt)))

pub returns-clause-later : goal.returns-clause-later
returns-clause-later c = λ n.
    let count : 64 * c.loop-chip.chip-index + n ≡ 64 * length c.args.out.now + n = omega arith in
    c.loop-chip.invariant.later n ∙ ap (after c.args.state.now) count

pub returns-clause-state : goal.returns-clause-state
returns-clause-state c = λ h. c.loop-chip.invariant.state (omega (arith, h))
