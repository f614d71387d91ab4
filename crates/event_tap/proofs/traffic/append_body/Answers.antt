use Rattle.traffic_message.proofs.ByLayout.{laid}
use Rattle.event_tap.proofs.TrafficTexts.{traffic_lines}
use Rattle.event_tap.proofs.traffic.append_body.Goals as goal

pub append_message-requires : goal.append_message-requires
append_message-requires c =
    let body = c.args.body.now in
    rw (c.layout.ensures.names, c.layout.ensures.shape, c.contents.ensures.value)
    (record {
      start = c.requires.start;
      said = laid body c.contents.ensures.fields;
      line = traffic_lines body c.in_default.not-Handoff;
    })
