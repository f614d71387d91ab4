use Rattle.long_code.proofs.Common.{◌≡◌, ◌<◌, ◌%◌, ◌^◌, ℕ, arith, refl, sym, ap, subst, ◌∙◌, binary, places, after}
use Rattle.long_code.proofs.After.{after_lt}
use Rattle.long_code.proofs.Product.{after-zero}
use Rattle.long_code.proofs.BitPairs.{bits_left, pair_more, all_bits}
use Rattle.long_code.proofs.symbol_step.times_x64.Goals as goal

pub loop-row-init : goal.loop-row-init
loop-row-init c =
    let none : c.args.value % 1 ≡ 0 = omega arith in
    record { left = omega arith; sum = sym (ap (λ (s : ℕ). after s 64) none ∙ after-zero 64) }

pub loop-row-preserved : goal.loop-row-preserved
unfolding after binary places
loop-row-preserved c =
    let l = c.loop-row in
    record {
      left = bits_left c.args.value l.row-index l.left l.invariant.left;
      sum = pair_more _ c.args.value l.row-index l.left l.sum refl c.loop-row-test.true
          l.invariant.left l.invariant.sum;
    }

pub returns-clause-value : goal.returns-clause-value
returns-clause-value c =
    all_bits c.args.value c.loop-row.row-index c.loop-row.sum c.requires (omega arith)
    c.loop-row.invariant.sum

pub returns-clause-below : goal.returns-clause-below
returns-clause-below c =
    let P : ℕ → Type 0 = λ n. n < 2 ^ 42 in
    let is = all_bits c.args.value c.loop-row.row-index c.loop-row.sum c.requires (omega arith)
    c.loop-row.invariant.sum in
    subst P (sym is) (after_lt c.args.value 64)
