use Rattle.long_code.proofs.Period.{moved_state}
use Rattle.long_code.proofs.state.State.step.Goals as goal

pub invariant_of-self : goal.invariant_of-self
invariant_of-self c = moved_state c.self.inside.value 1 _ c.times_x-self-inside.ensures.value c.self.invariant

pub returns-clause-state : goal.returns-clause-state
returns-clause-state c = moved_state c.self.inside.value 1 _ c.times_x-self-inside.ensures.value c.self.invariant
