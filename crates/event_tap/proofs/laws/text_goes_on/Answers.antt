use Rattle.event_tap.proofs.Runs.{run_taps-append, run_text-append}
use Rattle.event_tap.proofs.laws.text_goes_on.Goals as goal

pub returns-clause-text : goal.returns-clause-text
returns-clause-text c taps events more = run_text-append taps events more

pub returns-clause-taps : goal.returns-clause-taps
returns-clause-taps c taps events more = run_taps-append taps events more
