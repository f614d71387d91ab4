use Rattle.cell_samples.proofs.Common.{ints, common_steps, ◌==◌, ◌∷◌, [], length, ap, ◌∙◌, arith, length-append, piece_more}
use Rattle.cell_samples.proofs.sendings.piece_of.Goals as goal

pub loop-k-preserved : goal.loop-k-preserved
loop-k-preserved c =
    let i = c.loop-k.invariant in
    record {
      bits = c.append-in-loop-k.ensures
          ∙ piece_more c.args.capsule.now c.loop-k.bits c.args.place c.loop-k.k
          (c.args.place == 0) c.bit_or_zero.result c.requires c.loop-k-test.true i.bits
          c.bit_or_zero.ensures;
      count = omega (
        arith,
        ap length c.append-in-loop-k.ensures,
        length-append c.loop-k.bits (c.bit_or_zero.result ∷ []),
        i.count,
      );
    }

pub returns-clause-value : goal.returns-clause-value
returns-clause-value c = grind (ints, arith, common_steps)
