use Rattle.quality_bits.proofs.Common.{◌≡◌, ◌+◌, ◌≤◌, ◌<◌, ◌^◌, take, length, sym, ◌∙◌, arith, map, not, pow_mono, number, check_bits}
use Rattle.quality_bits.proofs.Common.{generator_of}
use Rattle.quality_bits.proofs.Digits.{number-inverted}
use Rattle.quality_bits.proofs.Steps.{length-check_bits}
use Rattle.quality_bits.proofs.checking.sent_after.Goals as goal

-- A complemented check is what is answered: a check and its complement add up to 2 to the number of
-- its bits, less 1, so taking the plain check off that number turns each of its bits.
pub returns-in-Complemented : goal.returns-in-Complemented
returns-in-Complemented c =
    let g = generator_of c.args.kind in
    let d = c.divisor.result in
    let bits = take c.args.count c.args.bits.now in
    let checked = check_bits g bits in
    let degree : d.degree ≡ g.degree = c.divisor.ensures.degree in
    let some : 0 < g.degree = omega (arith, d.least, degree) in
    let bound : 2 ^ d.degree ≤ 2 ^ 30 = pow_mono d.most in
    let long : length checked ≡ d.degree = length-check_bits g bits some ∙ sym degree in
    let plain : c.value-plain.result ≡ number checked = c.value-plain.ensures.value c.args.kind bits c.taken.ensures in
    let sum : number (map not checked) + number checked + 1 ≡ 2 ^ d.degree = rw long at (number-inverted checked) in
    rw c.in-Complemented.is (omega (arith, sum, plain, bound))
