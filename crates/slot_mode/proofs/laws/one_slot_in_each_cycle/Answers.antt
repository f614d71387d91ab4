use Rattle.slot_mode.proofs.Cycles.{comes_again, comes_in_time, comes_once}
use Rattle.slot_mode.proofs.laws.one_slot_in_each_cycle.Goals as goal

pub returns-clause-again : goal.returns-clause-again
returns-clause-again c = comes_again

pub returns-clause-in_time : goal.returns-clause-in_time
returns-clause-in_time c = comes_in_time

pub returns-clause-once : goal.returns-clause-once
returns-clause-once c = comes_once
