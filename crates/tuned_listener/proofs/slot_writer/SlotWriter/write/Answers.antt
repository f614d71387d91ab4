use Rattle.tuned_listener.proofs.Common.{arith, ints, common_steps}
use Rattle.tuned_listener.proofs.slot_writer.SlotWriter.write.Goals as goal

pub returns-clause-cycle : goal.returns-clause-cycle
returns-clause-cycle c = grind (ints, arith, common_steps)

pub write_slot-requires-clause-ready : goal.write_slot-requires-clause-ready
write_slot-requires-clause-ready c = grind (ints, arith, common_steps)

pub returns-clause-ready : goal.returns-clause-ready
returns-clause-ready c = grind (ints, arith, common_steps)

pub returns-clause-ok : goal.returns-clause-ok
returns-clause-ok c = grind (ints, arith, common_steps)

pub returns-then-self-lt-SLOT_FRAMES-clause-ready : goal.returns-then-self-lt-SLOT_FRAMES-clause-ready
returns-then-self-lt-SLOT_FRAMES-clause-ready c = grind (ints, arith, common_steps)

pub keep-requires-clause-ready : goal.keep-requires-clause-ready
keep-requires-clause-ready c = grind (ints, arith, common_steps)

pub returns-clause-key : goal.returns-clause-key
returns-clause-key c = grind (ints, arith, common_steps)
