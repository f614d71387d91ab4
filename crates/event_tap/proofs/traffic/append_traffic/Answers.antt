use Rattle.event_tap.proofs.Common.{sym}
use Rattle.event_tap.proofs.TrafficTexts.{few_records_in}
use Rattle.event_tap.proofs.traffic.append_traffic.Goals as goal

pub append_body-requires-clause-records : goal.append_body-requires-clause-records
append_body-requires-clause-records c =
    few_records_in c.args.message.now c.body.result c.body.ensures.spelled (sym c.body.ensures.value)
