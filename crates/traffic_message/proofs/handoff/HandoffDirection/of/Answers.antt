use Rattle.traffic_message.proofs.ByLayout.{search_fits}
use Rattle.traffic_message.specs.Handoff.{direction_of, search_from}
use Rattle.traffic_message.proofs.handoff.HandoffDirection.of.Goals as goal

pub fields_from-requires-clause-search : goal.fields_from-requires-clause-search
unfolding direction_of
fields_from-requires-clause-search c = search_fits (search_from c.args.contents.now.group) _ c.requires.group
