use Rattle.cell_samples.proofs.Common.{◌<◌, length, get_or, ◌∙◌, arith, length-set, of_sample, no_sample}
use Rattle.cell_samples.proofs.KeptBlocks.{one_turned}
use Rattle.cell_samples.proofs.block.turn.Goals as goal

pub loop-k-preserved : goal.loop-k-preserved
loop-k-preserved c =
    let inv = c.loop-k.invariant in
    let k = c.loop-k.k in
    let samples = c.loop-k.samples in
    let room : k < length samples = omega (arith, c.loop-k-test.true, inv.long) in
    record {
      long = length-set samples k c.turned.result ∙ inv.long;
      each = one_turned (λ k. of_sample (get_or c.args.chips.now k no_sample)) c.args.signs.now k samples
          c.turned.result room c.turned.ensures inv.each;
    }
