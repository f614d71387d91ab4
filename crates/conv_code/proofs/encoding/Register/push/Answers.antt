use Rattle.conv_code.proofs.Common.{arith, ints, refl, ◌∙◌, ap, map, ◌+◌, ◌*◌, ℕ, ◌≡◌, ◌%◌, ◌^◌, parity, bit_of, binary, g0, g1}
use Rattle.std.proofs.lemmas.Grind.{common_steps}
use Rattle.conv_code.proofs.Windows.{window, window_is, window_symbol, window_state, low_eight}
use Rattle.conv_code.proofs.encoding.Register.push.Goals as goal

pub returns-clause-first : goal.returns-clause-first
returns-clause-first c =
    let is : 2 * c.from.result + c.from-2.result ≡ window c.args.self.now c.args.bit =
    window_is _ _ _ _ (c.from.ensures ∙ c.self.view_is) c.from-2.ensures in
    c.parity_at.ensures ∙ ap (λ (n : ℕ). parity (map (bit_of n) g0)) is ∙
    window_symbol c.args.self.now c.args.bit g0 refl

pub returns-clause-second : goal.returns-clause-second
returns-clause-second c =
    let is : 2 * c.from.result + c.from-2.result ≡ window c.args.self.now c.args.bit =
    window_is _ _ _ _ (c.from.ensures ∙ c.self.view_is) c.from-2.ensures in
    c.parity_at-2.ensures ∙ ap (λ (n : ℕ). parity (map (bit_of n) g1)) is ∙
    window_symbol c.args.self.now c.args.bit g1 refl

pub returns-clause-last : goal.returns-clause-last
returns-clause-last c =
    let is : 2 * c.from.result + c.from-2.result ≡ window c.args.self.now c.args.bit =
    window_is _ _ _ _ (c.from.ensures ∙ c.self.view_is) c.from-2.ensures in
    ap (binary 8) (low_eight (2 * c.from.result + c.from-2.result) ∙ ap (λ (n : ℕ). n % 2 ^ 8) is) ∙
    window_state c.args.self.now c.args.bit

pub returns-clause-number : goal.returns-clause-number
returns-clause-number c = grind (ints, arith, common_steps)
