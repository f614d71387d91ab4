use Rattle.std.proofs.Common.{length, ◌∙◌}
use Rattle.base_modulator.proofs.MadeFiles.{piece_spelled}
use Rattle.base_modulator.proofs.making.writing.spell_next.Goals as goal

pub returns-clause-spelled : goal.returns-clause-spelled
returns-clause-spelled c =
    c.sample_bytes_into.ensures.spelled
    ∙ piece_spelled c.args.width c.args.cell.now.plan c.args.cell.now.given
    (length c.args.samples.now) c.fill.new.out c.fill.ensures.samples
