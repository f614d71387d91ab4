use Rattle.heard_events.proofs.SignalParts.{signal_long}
use Rattle.heard_events.proofs.hearing.signal_of.Goals as goal

pub returns-clause-long : goal.returns-clause-long
returns-clause-long c = rw (c.split_frame.ensures) (signal_long c.args.frame.now.rate c.args.frame.now.bits c.requires)
