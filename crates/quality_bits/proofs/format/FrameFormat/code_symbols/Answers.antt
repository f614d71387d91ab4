use Rattle.quality_bits.proofs.Common.{◌*◌, ◌∙◌, sym, bits_in}
use Rattle.quality_bits.proofs.Formats.{symbols_over_repeats}
use Rattle.quality_bits.proofs.format.FrameFormat.code_symbols.Goals as goal

pub returns-clause-value : goal.returns-clause-value
returns-clause-value g c =
    c.from-2.ensures
    ∙ symbols_over_repeats (2 * bits_in c.args.self.now) c.args.self.now.repeats c.from.result
    c.repeated_symbols.result c.from.ensures c.requires.some (c.requires.fills ∙ sym c.repeated_symbols.ensures.value)
