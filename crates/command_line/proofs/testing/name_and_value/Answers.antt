use Rattle.command_line.proofs.Common.{common_steps, ints, None, arith, sym, split_parts, name_and_value-without}
use Rattle.command_line.proofs.testing.name_and_value.Goals as goal

pub returns-in-None : goal.returns-in-None
returns-in-None c =
    let lacks = split_parts 61 c.args.text.now None c.in-None.ensures.cases (omega arith) in
    sym (name_and_value-without c.args.text.now lacks)

pub returns-in-Some : goal.returns-in-Some
returns-in-Some c = grind (ints, arith, common_steps)
