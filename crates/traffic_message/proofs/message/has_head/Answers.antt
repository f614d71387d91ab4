use Rattle.traffic_message.proofs.Common.{◌∙◌, arith, sym, nat_le, leb-true, false_from_ne_true}
use Rattle.traffic_message.proofs.Bodies.{is_body_by, short_is_no_body}
use Rattle.traffic_message.proofs.message.has_head.Goals as goal

pub returns-then-len-ge17 : goal.returns-then-len-ge17
returns-then-len-ge17 c =
    is_body_by c.args.body.now c.fills_capsule.result (omega (arith, c.if-len-ge17.true, c.len.ensures.value))
    (c.fills_capsule.ensures c.args.body.now (sym c.len-then-len-ge17.ensures.value))

pub returns-else-len-ge17 : goal.returns-else-len-ge17
returns-else-len-ge17 c =
    false_from_ne_true (nat_le 17 c.len.result)
    (λ e. absurd (omega (arith, leb-true 17 c.len.result e, c.if-len-ge17.false)))
    ∙ short_is_no_body c.args.body.now (omega (arith, c.if-len-ge17.false, c.len.ensures.value))
