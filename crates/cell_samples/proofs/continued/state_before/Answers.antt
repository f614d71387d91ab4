use Rattle.cell_samples.proofs.Common.{◌≡◌, ◌+◌, ◌-◌, ap, sym, ◌∙◌, arith, frame_bits_of, bits_before, before-first, last_before}
use Rattle.cell_samples.proofs.SentFrames.{eight_bits}
use Rattle.cell_samples.proofs.continued.state_before.Goals as goal

pub returns-then-frame-eq0-clause-value : goal.returns-then-frame-eq0-clause-value
returns-then-frame-eq0-clause-value c =
    let bits = frame_bits_of c.args.source.now in
    before-first bits ∙ ap (bits_before bits) (sym c.if-frame-eq0.true)

pub returns-clause-value : goal.returns-clause-value
returns-clause-value c =
    let source = c.args.source.now in
    let bits = c.frame_bits in
    let next : c.args.frame - 1 + 1 ≡ c.args.frame = omega (arith, c.if-frame-eq0.false) in
    last_before (frame_bits_of source) (c.args.frame - 1) 0 c.encode_into.result bits.result bits.ensures.value
    (omega (arith, bits.ensures.count, eight_bits source)) c.encode_into.ensures.last
    ∙ ap (bits_before (frame_bits_of source)) next
