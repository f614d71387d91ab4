use Rattle.traffic_message.proofs.Common.{ap, ◌∙◌, capsule, M16, traffic_capsule}
use Rattle.traffic_message.proofs.message.TrafficMessage.encode.Goals as goal

pub returns : goal.returns
unfolding traffic_capsule
returns c = c.capsule_of.ensures ∙ ap (capsule M16 c.args.form) c.spelled_body.ensures.value
