use Rattle.quality_bits.proofs.Common.{◌≡◌, ℕ, ◌<◌, ◌^◌, ◌++◌, [], ◌∷◌, ap, sym, ◌∙◌, arith, number, check_bits, generator_of, Division}
use Rattle.quality_bits.proofs.Common.{Kind}
use Rattle.quality_bits.proofs.Steps.{next, next_then, next_else, next_lt, check_more}
use Rattle.quality_bits.proofs.register.Register.push.Goals.{then-lead-bit, else-lead-bit}
use Rattle.quality_bits.proofs.register.Register.push.Goals as goal

-- A register stays below 2^degree: whether the bit that leaves it differs from the new one or not,
-- the next value is the definition's, which is below that bound where the value before was.
pub invariant_of-self : goal.invariant_of-self
invariant_of-self c =
    let g = generator_of c.self.inside.kind in
    let d = c.divisor-divisor.result in
    let fits : c.self.inside.value < 2 ^ d.degree = rw c.divisor-divisor.ensures.degree c.self.invariant in
    let moved : c.if-lead-bit.self ≡ next d.degree d.below c.self.inside.value c.args.bit =
    elim c.if-lead-bit.branch [
      | then-lead-bit w ↦ next_then _ _ _ _ _ d.most fits w.if-lead-bit.true w.self-is
      | else-lead-bit w ↦ next_else _ _ _ _ _ d.most fits w.if-lead-bit.false w.self-is
    ] in
    rw (moved, ← c.divisor-divisor.ensures.degree) (next_lt d.degree d.below c.self.inside.value c.args.bit d.fits)

-- One bit more through the register is one step of the division: the register holds the remainder
-- of the bits before, and whether its highest bit is set or not the next value is the remainder of
-- these bits and the new one.
pub returns : goal.returns
returns c kind bits stands =
    let here = c.self.inside.kind in
    let g = generator_of here in
    let d = c.divisor-divisor.result in
    let value = c.self.inside.value in
    let bit = c.args.bit in
    let fits : value < 2 ^ d.degree = rw c.divisor-divisor.ensures.degree c.self.invariant in
    let moved : c.if-lead-bit.self ≡ next d.degree d.below value bit = elim c.if-lead-bit.branch [
      | then-lead-bit w ↦ next_then _ _ _ _ _ d.most fits w.if-lead-bit.true w.self-is
      | else-lead-bit w ↦ next_else _ _ _ _ _ d.most fits w.if-lead-bit.false w.self-is
    ] in
    let same : here ≡ kind = ap (λ (v : Division). v.kind) c.self.view_is ∙ stands.same in
    let held : value ≡ number (check_bits g bits) =
    ap (λ (v : Division). v.rest) c.self.view_is ∙ stands.held ∙
    ap (λ (k : Kind). number (check_bits (generator_of k) bits)) (sym same) in
    let some : 0 < g.degree = omega (arith, d.least, c.divisor-divisor.ensures.degree) in
    record {
      same = same;
      held = moved
          ∙ ap (λ (n : ℕ). next n d.below value bit) c.divisor-divisor.ensures.degree
          ∙ ap (λ (n : ℕ). next g.degree n value bit) c.divisor-divisor.ensures.below
          ∙ check_more g value bits bit some held
          ∙ ap (λ (k : Kind). number (check_bits (generator_of k) (bits ++ bit ∷ []))) same;
    }
