use Rattle.trial_link.proofs.Common.{◌≡◌, ◌+◌, ◌%◌, ◌==◌, ◌++◌, ◌∷◌, [], length, sym, ap, ◌∙◌, arith, List, Bool, ℕ, past_draw, past_draws}
use Rattle.trial_link.proofs.Common.{bits_drawn, drawn}
use Rattle.trial_link.proofs.TrialDraws.{bits_more, draws_more, length-bits_drawn, no_bits_drawn, no_draws}
use Rattle.trial_link.proofs.trial.Draws.bits.Goals as goal

pub loop-bit-init : goal.loop-bit-init
loop-bit-init c = record {
  value = c.empty-bits.ensures ∙ sym (no_bits_drawn c.args.self.now.state);
  count = ap length c.empty-bits.ensures;
  state = sym (no_draws c.args.self.now.state);
}

pub append-requires : goal.append-requires
append-requires c = omega (arith, c.loop-bit.invariant.count, c.loop-bit-test.true, c.requires)

-- One bit more is drawn: it is the lowest one of the number drawn from the state after the draws so
-- far, and the state goes on by one draw.
pub loop-bit-preserved : goal.loop-bit-preserved
loop-bit-preserved c =
    let inv = c.loop-bit.invariant in
    let s = c.args.self.now.state in
    let k = c.loop-bit._bit in
    let bit : c.bit.result ≡ (drawn (past_draws s k) % 2 == 1) =
    c.bit.ensures.value ∙ ap (λ (t : ℕ). drawn t % 2 == 1) inv.state in
    let bits = c.append.ensures
    ∙ ap (λ (bs : List Bool). bs ++ c.bit.result ∷ []) inv.value
    ∙ ap (λ (b : Bool). bits_drawn s k ++ b ∷ []) bit
    ∙ sym (bits_more s k) in
    record {
      value = bits;
      count = ap length bits ∙ length-bits_drawn s (k + 1);
      state = c.bit.ensures.state ∙ ap past_draw inv.state ∙ sym (draws_more s k);
    }

pub returns-clause-value : goal.returns-clause-value
returns-clause-value c =
    let all : c.loop-bit._bit ≡ c.args.count = omega (arith, c.loop-bit-test.false, c.loop-bit.auto._bit-end) in
    c.loop-bit.invariant.value ∙ ap (bits_drawn c.args.self.now.state) all

pub returns-clause-count : goal.returns-clause-count
returns-clause-count c = omega (arith, c.loop-bit.invariant.count, c.loop-bit-test.false, c.loop-bit.auto._bit-end)

pub returns-clause-state : goal.returns-clause-state
returns-clause-state c =
    let all : c.loop-bit._bit ≡ c.args.count = omega (arith, c.loop-bit-test.false, c.loop-bit.auto._bit-end) in
    c.loop-bit.invariant.state ∙ ap (past_draws c.args.self.now.state) all
