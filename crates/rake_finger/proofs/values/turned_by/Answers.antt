use Rattle.rake_finger.proofs.Common.{◌≡◌, ◌+◌, ◌*◌, ◌∙◌, arith, ◌+ℤ◌, ◌*ℤ◌, unsigned_abs, ints, to_z-of_z, kept_sum_back, kept_sum_fits}
use Rattle.rake_finger.proofs.Common.{kept_sum_within}
use Rattle.rake_finger.proofs.SoftValues.{turned_part-is}
use Rattle.rake_finger.proofs.values.turned_by.Goals as goal

pub overflow_add-result : goal.overflow_add-result
overflow_add-result c =
    kept_sum_fits c.product.result c.product-2.result (omega (arith, c.product.ensures.most, c.product-2.ensures.most))

-- The value is the real part of the pilot's conjugate times the symbol: each of the two products is
-- the true one, and their sum fits into 64 bits.
pub returns-clause-value : goal.returns-clause-value
returns-clause-value c =
    let p = c.args.pilot in
    let s = c.args.symbol in
    let i : c.product.result ≡ p.i *ℤ s.i = search (arith, ints, to_z-of_z, c.product.ensures.value) in
    let q : c.product-2.result ≡ p.q *ℤ s.q = search (arith, ints, to_z-of_z, c.product-2.ensures.value) in
    kept_sum_back c.product.result c.product-2.result (omega (arith, c.product.ensures.most, c.product-2.ensures.most))
    ∙ (λ n. i n +ℤ q n) ∙ turned_part-is p s

-- The size of a sum of two products is at most the sum of the products' sizes.
pub returns-clause-bound : goal.returns-clause-bound
returns-clause-bound c =
    let p = c.args.pilot in
    let s = c.args.symbol in
    let i : unsigned_abs c.product.result ≡ unsigned_abs p.i * unsigned_abs s.i =
    search (arith, ints, to_z-of_z, c.product.ensures.size) in
    let q : unsigned_abs c.product-2.result ≡ unsigned_abs p.q * unsigned_abs s.q =
    search (arith, ints, to_z-of_z, c.product-2.ensures.size) in
    kept_sum_within c.product.result c.product-2.result
    (unsigned_abs p.i * unsigned_abs s.i + unsigned_abs p.q * unsigned_abs s.q)
    (omega (arith, i, q)) (omega (arith, i, q, c.product.ensures.most, c.product-2.ensures.most))
