use Rattle.symbol_path.proofs.Common.{sym, arith, ◌∙◌, after_none}
use Rattle.symbol_path.proofs.scramble.group_bits.Goals as goal

pub returns-clause-later : goal.returns-clause-later
returns-clause-later c =
    let next = c.symbol_chips.ensures in
    sym (after_none c.symbol_chips.new.state (next.state (omega arith)).1) ∙ next.later 0
