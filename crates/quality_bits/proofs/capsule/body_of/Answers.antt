use Rattle.quality_bits.proofs.Common.{◌≡◌, ◌-◌, Ok, length, ap, ◌∙◌, take, drop, ℕ, arith, generator_of}
use Rattle.quality_bits.proofs.Wholes.{inner, inner-capsule, length-capsule}
use Rattle.quality_bits.proofs.capsule.body_of.Goals as goal

-- The capsule of a body gives that body: the count is the body's length, so the bits that are taken
-- after the first 8 are the capsule's inner ones.
pub returns-clause-only : goal.returns-clause-only
returns-clause-only c body fills is =
    let bits = c.args.bits.now in
    let count : c.in_ok-count.count ≡ length body = cc (c.in_ok-count.ensures.only body fills is) in
    let long = length-capsule c.args.kind c.args.form body in
    let here : length body ≡ length bits - 8 - (generator_of c.args.kind).degree = omega (arith, ap length is, long) in
    ap Ok (c.part.ensures ∙ ap (λ (n : ℕ). take n (drop 8 bits)) (count ∙ here)
    ∙ ap (inner c.args.kind) is ∙ inner-capsule c.args.kind c.args.form body)
