use Rattle.quality_bits.proofs.Common.{length, ap, ◌∙◌, arith}
use Rattle.quality_bits.proofs.Formats.{length-checked, length-format_codeword, tailed}
use Rattle.quality_bits.proofs.format.FrameFormat.codeword.Goals as goal

pub append_number-requires-clause-room : goal.append_number-requires-clause-room
append_number-requires-clause-room g c =
    omega (
      arith,
      ap length c.with_quality-bits.ensures,
      length-checked c.args.self.now c.args.information.now c.requires.count,
      c.requires.format.most,
    )

pub returns-clause-value : goal.returns-clause-value
returns-clause-value g c =
    c.append_number.ensures
    ∙ tailed c.args.self.now c.args.information.now c.with_quality-bits.result
    c.with_quality-bits.ensures

pub returns-clause-count : goal.returns-clause-count
returns-clause-count g c =
    ap length (returns-clause-value g c)
    ∙ length-format_codeword c.args.self.now c.args.information.now c.requires.count
