use Rattle.long_code.proofs.Common.{◌≡◌, ◌-◌, ◌/◌, ◌^◌, ℕ, true, false, sym, ap, ◌∙◌, arith, eq-eqb, bit_and, bit_xor, ne_eqb, xor_lt}
use Rattle.long_code.proofs.Common.{after}
use Rattle.long_code.proofs.Product.{after-zero, product_more}
use Rattle.long_code.proofs.state.product.Goals as goal

pub loop-place-init : goal.loop-place-init
loop-place-init c = record {
  below = omega arith;
  product = λ chips h.
      let none : c.args.value / 4398046511104 ≡ 0 = omega (arith, c.requires.value) in
      rw none (sym (after-zero chips));
}

-- One bit more of the value, which is 1, is taken in: what the bits so far become is multiplied by
-- x, and what 1 becomes in as many chips, the power, is added.
pub loop-place-preserved-then-value-place-eq1 : goal.loop-place-preserved-then-value-place-eq1
loop-place-preserved-then-value-place-eq1 c =
    let next = c.times_x-sum.ensures in
    record {
      below = xor_lt 42 c.times_x-sum.result c.args.power next.below c.requires.power;
      product = λ chips h.
          ap (λ (s : ℕ). bit_xor s c.args.power) next.value ∙
          ap (bit_xor (after c.loop-place.sum 1)) h
          ∙ product_more c.args.value c.loop-place.place chips c.loop-place.sum true
          c.loop-place-test.true c.requires.value (c.loop-place.invariant.product chips h)
          (sym (eq-eqb (bit_and (c.args.value / 2 ^ (c.loop-place.place - 1)) 1) 1
          c.if-value-place-eq1.true));
    }

-- One bit more of the value, which is 0, is taken in: what the bits so far become is multiplied by
-- x, and nothing is added.
pub loop-place-preserved : goal.loop-place-preserved
loop-place-preserved c =
    let next = c.times_x-sum.ensures in
    record {
      below = next.below;
      product = λ chips h.
          next.value
          ∙ product_more c.args.value c.loop-place.place chips c.loop-place.sum false
          c.loop-place-test.true c.requires.value (c.loop-place.invariant.product chips h)
          (sym (ne_eqb (bit_and (c.args.value / 2 ^ (c.loop-place.place - 1)) 1) 1
          c.if-value-place-eq1.false));
    }

pub returns-clause-product : goal.returns-clause-product
returns-clause-product c = λ chips h.
    let none : c.loop-place.place ≡ 0 = omega arith in
    let whole : c.args.value / 2 ^ 0 ≡ c.args.value = omega arith in
    rw (none, whole) at (c.loop-place.invariant.product chips h)
