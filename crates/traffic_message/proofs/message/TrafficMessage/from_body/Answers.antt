use Rattle.traffic_message.proofs.Common.{ap, ◌∙◌, traffic_body_reading}
use Rattle.traffic_message.proofs.Readings.{body_found, body_only}
use Rattle.traffic_message.proofs.message.TrafficMessage.from_body.Goals as goal

pub returns-clause-found : goal.returns-clause-found
returns-clause-found c =
    body_found c.args.body.now c.read.result (c.read.ensures ∙ ap traffic_body_reading c.whole.ensures)

pub returns-clause-only : goal.returns-clause-only
returns-clause-only c m is same =
    body_only c.args.body.now c.read.result m (c.read.ensures ∙ ap traffic_body_reading c.whole.ensures)
    is same
