use Rattle.event_tap.proofs.Common.{arith, common_steps, ints}
use Rattle.paging_message.specs.Messages.{paging_kind_of}
use Rattle.event_tap.proofs.SaidTexts.{paging_lines}
use Rattle.event_tap.proofs.paging.append_paging.Goals as goal

pub append_message-requires-clause-line : goal.append_message-requires-clause-line
append_message-requires-clause-line c =
    rw (c.layout.ensures.names, c.layout.ensures.shape) (paging_lines (paging_kind_of c.args.message.now))

pub append_named-requires-clause-ascii : goal.append_named-requires-clause-ascii
append_named-requires-clause-ascii c = grind (ints, arith, common_steps)

pub append_message-requires-clause-start : goal.append_message-requires-clause-start
append_message-requires-clause-start c = grind (ints, arith, common_steps)
