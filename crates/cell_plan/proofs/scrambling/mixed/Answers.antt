use Rattle.cell_plan.proofs.Common.{◌≡◌, ◌∷◌, [], ◌++◌, length, get_or, false, refl, ap, ◌∙◌, arith, length-append, xor}
use Rattle.cell_plan.proofs.PageCycles.{differ_is, mixed_all, mixed_more}
use Rattle.cell_plan.proofs.scrambling.mixed.Goals as goal

pub loop-k-preserved : goal.loop-k-preserved
loop-k-preserved c =
    let i = c.loop-k.invariant in
    let chip = get_or c.args.chips.now c.loop-k.k false in
    let e : c.append.new.self ≡ c.loop-k.out ++ xor c.get.result chip ∷ [] =
    rw (c.from.ensures, differ_is c.get.result chip) at c.append.ensures in
    record {
      bits = e ∙ mixed_more c.args.symbols.now c.args.chips.now c.loop-k.out c.loop-k.k
          c.get.result chip c.get.ensures (omega (arith, c.loop-k-test.true, c.len-k-end.ensures.value))
          (omega (arith, c.loop-k-test.true, c.len-k-end.ensures.value, c.requires, c.told-chips))
          refl i.bits;
      count = omega (arith, ap length e, length-append c.loop-k.out (xor c.get.result chip ∷ []), i.count);
    }

pub returns-clause-value : goal.returns-clause-value
returns-clause-value c =
    let end = c.len-k-end.ensures.value in
    mixed_all c.args.symbols.now c.args.chips.now c.loop-k.out c.loop-k.k (omega (arith, c.loop-k-test.false, end))
    (omega (arith, c.loop-k-test.false, end, c.requires, c.told-chips)) c.loop-k.invariant.bits
