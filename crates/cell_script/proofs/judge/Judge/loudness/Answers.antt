use Rattle.cell_script.proofs.Common.{ints, common_steps, ◌≤◌, ◌+◌, ◌^◌, ◌∙◌, ap, arith, unsigned_abs, ℤ, mul-le, read64}
use Rattle.cell_script.proofs.judge.Judge.loudness.Goals as goal

-- The product stays below 2^64: each part of the link is at most 2^15 in size, so both together are
-- at most 2^16, and the gains of all channels add up to at most 2^41.
pub overflow_mul-result : goal.overflow_mul-result
overflow_mul-result c =
    let link = c.requires.link in
    let i = c.args.self.now.link.factor.i in
    let q = c.args.self.now.link.factor.q in
    let size = c.unsigned_abs.ensures.value
    ∙ ap (λ (z : ℤ). unsigned_abs z) (read64 i (omega (arith, link.in_phase))) in
    let size-2 = c.unsigned_abs-2.ensures.value
    ∙ ap (λ (z : ℤ). unsigned_abs z) (read64 q (omega (arith, link.quadrature))) in
    let factor = c.unsigned_abs.result + c.unsigned_abs-2.result in
    let gains = c.from.result + c.from-2.result + c.args.self.now.channels.gains in
    let small : factor ≤ 65536 = omega (arith, size, size-2, link.in_phase, link.quadrature) in
    let few : gains ≤ 2 ^ 41 = omega arith in
    omega (arith, mul-le factor gains 65536 (2 ^ 41) small few)

pub returns : goal.returns
returns c = grind (ints, arith, common_steps)
