use Rattle.quality_bits.proofs.Common.{◌≡◌, ◌^◌, ◌≤◌, ◌<◌, ◌+◌, [], refl, arith, number, check_bits, pow_mono, generator_of}
use Rattle.quality_bits.proofs.Steps.{check_none}
use Rattle.quality_bits.proofs.register.Register.new.Goals as goal

-- A new register holds the check of no bits, which is all ones: that is 2^degree - 1, and since the
-- degree is at most 30 it fits into the register.
pub returns : goal.returns
returns c =
    let g = generator_of c.args.kind in
    let d = c.divisor-divisor.result in
    let bound : 2 ^ d.degree ≤ 2 ^ 30 = pow_mono d.most in
    let degree : d.degree ≡ g.degree = c.divisor-divisor.ensures.degree in
    let some : 0 < g.degree = omega (arith, d.least, degree) in
    let ones : number (check_bits g []) + 1 ≡ 2 ^ d.degree = rw degree (check_none g some) in
    record { same = refl; held = omega (arith, ones, bound) }
