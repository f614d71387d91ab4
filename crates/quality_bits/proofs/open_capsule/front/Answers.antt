use Rattle.quality_bits.proofs.Common.{sym, ap, ◌∙◌, arith, Some, take, ℕ, false_from_ne_true, is_stated}
use Rattle.quality_bits.proofs.Opened.{front-none, front-short, front-whole}
use Rattle.quality_bits.proofs.open_capsule.front.Goals as goal

pub returns-in_err-stated : goal.returns-in_err-stated
returns-in_err-stated c =
    let untold = false_from_ne_true (is_stated c.args.bits.now) c.in_err-stated.ensures in
    c.from_residual.ensures ∙ sym (front-none c.args.bits.now untold)

pub returns-then-len-stated : goal.returns-then-len-stated
returns-then-len-stated c =
    let told = c.in_ok-stated.ensures in
    sym (front-short c.args.bits.now (omega (arith, told.1, c.len.ensures.value, c.if-len-stated.true)))

pub returns : goal.returns
returns c =
    let told = c.in_ok-stated.ensures in
    let whole =
    front-whole c.args.bits.now told.0 (omega (arith, told.1, c.len.ensures.value, c.if-len-stated.false)) in
    ap Some (c.part.ensures ∙ ap (λ (n : ℕ). take n c.args.bits.now) told.1) ∙ sym whole
