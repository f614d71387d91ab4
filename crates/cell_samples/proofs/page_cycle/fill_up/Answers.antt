use Rattle.cell_samples.proofs.Common.{ints, common_steps, ◌≡◌, ℕ, ◌++◌, false, replicate, ap, ◌∙◌, arith, fill}
use Rattle.cell_samples.proofs.page_cycle.fill_up.Goals as goal

pub returns : goal.returns
unfolding fill
returns c =
    let half = c.args.half_frame in
    let all : c.loop-zero._zero ≡ fill half c.len.result =
    omega (arith, c.loop-zero-test.false, c.loop-zero.auto._zero-end) in
    c.loop-zero.invariant.bits
    ∙ ap (λ (n : ℕ). c.args.bits.now ++ replicate n false) (all ∙
    ap (fill half) c.len.ensures.value)

pub loop-zero-preserved : goal.loop-zero-preserved
loop-zero-preserved c = grind (ints, arith, common_steps)
