use Rattle.event_tap.proofs.Runs.{run_text-single}
use Rattle.event_tap.proofs.laws.taps_hear_the_first_events.Goals as goal

pub returns : goal.returns
returns c form limit events = run_text-single form limit events
