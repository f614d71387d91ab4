use Rattle.cell_samples.proofs.Common.{◌≡◌, ◌+◌, length, ap, sym, ◌∙◌, arith, binary, length-code_symbols, FrameSource, frame_bits_of}
use Rattle.cell_samples.proofs.Common.{frame_size, bits_before, coded, last_before}
use Rattle.cell_samples.proofs.SentFrames.{eight_bits}
use Rattle.cell_samples.proofs.continued.ContinuedEncoder.code.Goals as goal

pub invariant_of-self : goal.invariant_of-self
invariant_of-self c =
    let source = c.self.inside.source in
    let bits = c.frame_bits-bits in
    last_before (frame_bits_of source) c.args.frame c.state_at-start.result
    c.encode_into-self-inside.result bits.result
    bits.ensures.value (omega (arith, bits.ensures.count, eight_bits source)) c.encode_into-self-inside.ensures.last
    ∙ ap (λ (s : FrameSource). bits_before (frame_bits_of s) (c.args.frame + 1)) (sym bits.ensures.same)

pub returns-clause-value : goal.returns-clause-value
returns-clause-value c =
    let source = c.args.self.now in
    let bits = c.frame_bits-bits in
    let same : c.self.inside.source ≡ source = c.self.view_is ∙ c.state_at-start.ensures.same in
    coded (frame_bits_of source) c.args.frame c.state_at-start.result bits.result
    c.encode_into-self-inside.new.out (bits.ensures.value ∙ ap (λ (s : FrameSource). frame_bits_of s c.args.frame) same)
    c.state_at-start.ensures.value c.encode_into-self-inside.ensures.symbols

pub returns-clause-count : goal.returns-clause-count
returns-clause-count c =
    let bits = c.frame_bits-bits in
    let same : c.self.inside.source ≡ c.args.self.now = c.self.view_is
    ∙ c.state_at-start.ensures.same in
    omega (
      arith,
      ap length c.encode_into-self-inside.ensures.symbols,
      length-code_symbols (binary 8 c.state_at-start.result) bits.result,
      bits.ensures.count,
      ap frame_size same,
    )
