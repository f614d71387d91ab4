use Rattle.tuned_listener.proofs.SlotTimes.{needs_mark, written_by_times}
use Rattle.tuned_listener.proofs.laws.slots_are_written_by_their_times.Goals as goal

pub returns-clause-times : goal.returns-clause-times
returns-clause-times c = written_by_times

pub returns-clause-mark : goal.returns-clause-mark
returns-clause-mark c = needs_mark
