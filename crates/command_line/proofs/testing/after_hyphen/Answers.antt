use Rattle.command_line.proofs.Common.{arith, strip_prefix_char, strip_byte-from}
use Rattle.command_line.proofs.testing.after_hyphen.Goals as goal

pub returns : goal.returns
returns c = strip_byte-from 45 c.args.arg.now c.strip_prefix.result
    (strip_prefix_char 45 c.args.arg.now c.strip_prefix.result c.strip_prefix.ensures.cases (omega arith))
