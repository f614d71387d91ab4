use Rattle.quality_bits.proofs.Common.{◌≡◌, ◌++◌, take, ap, ◌∙◌, List, Bool, arith, take_all, number, sent_check}
use Rattle.quality_bits.proofs.Wholes.{written_check}
use Rattle.quality_bits.proofs.checking.append_check.Goals as goal

pub append_number-requires-clause-fits : goal.append_number-requires-clause-fits
append_number-requires-clause-fits c =
    (written_check c.args.kind c.args.form (take c.len.result c.args.bits.now)
    c.divisor.result.degree c.from.result c.divisor.ensures.degree (c.from.ensures ∙ c.sent_after-sent.ensures)).0

-- The bits that are added are the check of all bits before: the check is computed after the last of
-- them, and its number is written in as many bits as the generator's degree.
pub returns : goal.returns
returns c =
    let kind = c.args.kind in
    let form = c.args.form in
    let bits = c.args.bits.now in
    let all : take c.len.result bits ≡ bits = take_all c.len.result bits (omega (arith, c.len.ensures.value)) in
    let sent : c.from.result ≡ number (sent_check kind form bits) =
    c.from.ensures ∙ c.sent_after-sent.ensures
    ∙ ap (λ (r : List Bool). number (sent_check kind form r)) all in
    c.append_number.ensures
    ∙ ap (λ (r : List Bool). bits ++ r)
    (written_check kind form bits c.divisor.result.degree c.from.result c.divisor.ensures.degree
    sent).1
