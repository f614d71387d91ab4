use Rattle.event_tap.proofs.Runs.{run_text-no_taps}
use Rattle.event_tap.proofs.laws.no_tap_writes_nothing.Goals as goal

pub returns : goal.returns
returns c events = run_text-no_taps events
