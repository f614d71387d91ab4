use Rattle.clean_signal.proofs.noise.TakenAway.{exact, taken_away}
use Rattle.clean_signal.proofs.laws.margins_are_exact.Goals as goal

pub returns : goal.returns
returns c = record { taken = taken_away; exact = exact }
