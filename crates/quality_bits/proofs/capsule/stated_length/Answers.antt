use Rattle.quality_bits.proofs.Common.{◌≡◌, ◌*◌, ◌≤◌, length, ap, refl, arith, stated_bits}
use Rattle.quality_bits.proofs.Opened.{stated_bounds, stated_from, stated_is}
use Rattle.quality_bits.proofs.capsule.stated_length.Goals as goal

-- Where eight bits could be read, the bits state a length, and it is eight times the number of
-- octets that was read; the test of its bounds says the same as the definition's.
pub returns-in-Ok : goal.returns-in-Ok
returns-in-Ok c =
    let bits = c.args.bits.now in
    let read = c.in-Ok.ensures in
    let same : 8 * c.in-Ok.octets ≡ stated_bits bits =
    stated_is c.new.result bits c.in-Ok.octets c.new.ensures read.value in
    let told : 8 ≤ length bits = omega (arith, read.enough.0 refl, ap length c.new.ensures) in
    (stated_from bits told (omega arith) (omega arith), same)

pub returns-in_default : goal.returns-in_default
returns-in_default c told =
    let bits = c.args.bits.now in
    let read = c.in-Ok.ensures in
    let same : 8 * c.in-Ok.octets ≡ stated_bits bits =
    stated_is c.new.result bits c.in-Ok.octets c.new.ensures read.value in
    let bounds = stated_bounds bits told in
    omega arith

pub returns-in_default-2 : goal.returns-in_default-2
returns-in_default-2 c told =
    let bits = c.args.bits.now in
    let read = c.in-Ok.ensures in
    let same : 8 * c.in-Ok.octets ≡ stated_bits bits =
    stated_is c.new.result bits c.in-Ok.octets c.new.ensures read.value in
    let bounds = stated_bounds bits told in
    omega arith

pub returns-in_default-3 : goal.returns-in_default-3
returns-in_default-3 c told =
    let bounds = stated_bounds c.args.bits.now told in
    let long : 8 ≤ length c.new.result = omega (arith, ap length c.new.ensures) in
    absurd (cc (c.in_default.ensures.enough.1 long))
