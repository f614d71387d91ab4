use Rattle.rake_finger.proofs.Common.{◌≡◌, ◌≤◌, ◌<◌, ◌+◌, ◌*◌, ◌%◌, ◌^◌, ℕ, Bool, ap, ◌∙◌, arith, pos, unsigned_abs, sign, times, conjugate}
use Rattle.rake_finger.proofs.Common.{point, of_sample, pilot_chip, kept_sum_back, kept_sum_fits, kept_sum_within}
use Rattle.rake_finger.proofs.CoveredSums.{row_sign, covered_step}
use Rattle.rake_finger.proofs.Rings.{held_sample, next_cell}
use Rattle.rake_finger.proofs.sums.covered_sum.Goals as goal

pub overflow_add-sum : goal.overflow_add-sum
overflow_add-sum c =
    kept_sum_fits c.loop-k.sum.i c.covered-product.result.i
    (omega (arith, c.loop-k.invariant.i_bound, c.covered-product.ensures.i_bound, c.loop-k-test.true, c.ranges.chips.fits))

pub overflow_add-sum-in-loop-k : goal.overflow_add-sum-in-loop-k
overflow_add-sum-in-loop-k c =
    kept_sum_fits c.loop-k.sum.q c.covered-product.result.q
    (omega (arith, c.loop-k.invariant.q_bound, c.covered-product.ensures.q_bound, c.loop-k-test.true, c.ranges.chips.fits))

-- One chip more is added: its sample is still in the ring, the code's point is that of the phase at
-- the sample's place, and so their product, with the row's sign, is the definition's next term.
pub loop-k-preserved : goal.loop-k-preserved
loop-k-preserved c =
    let inv = c.loop-k.invariant in
    let ring = c.args.ring.now in
    let row = c.args.row in
    let k = c.loop-k.k in
    let place = c.args.place in
    let sample = c.get-sample.result in
    let phase : c.from.result + place + c.from-in-loop-k.result ≡ c.args.phase + place + k = omega arith in
    let code : c.chip-code.result ≡ pilot_chip ((c.args.phase + place + k) % 32768) =
    c.chip-code.ensures ∙ ap (λ (n : ℕ). pilot_chip (n % 32768)) phase in
    let is =
    c.covered-product.ensures.value
    ∙ ap (λ (chip : Bool). times (record {
      i = sign chip;
      q = pos 0;
    }) (times (of_sample sample) (conjugate (point c.chip-code.result))))
    c.chip-row_chip.ensures
    ∙ ap (λ (chips : Bool × Bool). times (row_sign row k) (times (of_sample sample) (conjugate (point chips)))) code in
    let sum = c.loop-k.sum in
    let product = c.covered-product.result in
    let most = 65536 * (k + 1) in
    let fits : most < 2 ^ 63 = omega (arith, c.loop-k-test.true, c.ranges.chips.fits) in
    let near_i : unsigned_abs sum.i + unsigned_abs product.i ≤ most =
    omega (arith, inv.i_bound, c.covered-product.ensures.i_bound) in
    let near_q : unsigned_abs sum.q + unsigned_abs product.q ≤ most =
    omega (arith, inv.q_bound, c.covered-product.ensures.q_bound) in
    record {
      value = λ samples held.
          let t = held.taken in
          covered_step row c.args.phase place k samples sample sum product _ _ (omega (arith, t))
          (held_sample ring samples (place + k) c.loop-k.cell sample held (omega arith)
          (omega arith) inv.cell c.get-sample.ensures)
          is (inv.value samples held) (kept_sum_back sum.i product.i (omega (arith, near_i, fits)))
          (kept_sum_back sum.q product.q (omega (arith, near_q, fits)));
      cell = next_cell place k c.loop-k.cell c.cell_after-cell.result ring.room inv.cell
          c.cell_after-cell.ensures.value;
      below = c.cell_after-cell.ensures.below;
      i_bound = kept_sum_within sum.i product.i most near_i fits;
      q_bound = kept_sum_within sum.q product.q most near_q fits;
    }
