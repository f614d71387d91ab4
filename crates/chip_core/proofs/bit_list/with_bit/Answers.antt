use Rattle.chip_core.proofs.WordBits.{set_here, set_others}
use Rattle.chip_core.proofs.bit_list.with_bit.Goals as goal

pub returns-clause-here : goal.returns-clause-here
returns-clause-here c clear = set_here c.args.word c.args.place c.from.result c.args.bit c.requires c.from.ensures clear

pub returns-clause-others : goal.returns-clause-others
returns-clause-others c i within other =
    set_others c.args.word c.args.place c.from.result c.args.bit c.requires c.from.ensures i other
