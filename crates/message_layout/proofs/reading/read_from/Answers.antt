use Rattle.message_layout.proofs.Common.{ap, ◌∙◌, drop, reading, shape}
use Rattle.message_layout.proofs.Round.{read_found, reading_again}
use Rattle.message_layout.proofs.reading.read_from.Goals as goal

pub returns-clause-found : goal.returns-clause-found
returns-clause-found c =
    read_found (shape c.args.layout.now) (drop c.args.from c.args.bits.now) c.read_parts.result
    c.requires.lawful c.read_parts.ensures

pub returns-clause-only : goal.returns-clause-only
returns-clause-only c contents is same =
    c.read_parts.ensures ∙ ap (reading (shape c.args.layout.now)) same
    ∙ reading_again (shape c.args.layout.now) contents c.requires.lawful is
