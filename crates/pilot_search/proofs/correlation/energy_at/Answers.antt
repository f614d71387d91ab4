use Rattle.pilot_search.proofs.Common.{ap, ◌∙◌, norm, energy}
use Rattle.pilot_search.proofs.correlation.energy_at.Goals as goal

pub returns-clause-value : goal.returns-clause-value
unfolding energy
returns-clause-value c = c.norm_of.ensures.value ∙ ap norm c.correlation_at.ensures.value
