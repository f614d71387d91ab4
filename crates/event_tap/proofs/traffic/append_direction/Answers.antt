use Rattle.event_tap.proofs.Common.{arith, common_steps, ints}
use Rattle.traffic_message.proofs.ByLayout.{search_fits}
use Rattle.event_tap.proofs.TrafficTexts.{listed_records}
use Rattle.event_tap.proofs.traffic.append_direction.Goals as goal

pub append_search-requires-clause-fit : goal.append_search-requires-clause-fit
append_search-requires-clause-fit c = search_fits c.fields-fields.result.search _ c.fields-fields.ensures.spelled.group

pub append_items-requires-clause-fit : goal.append_items-requires-clause-fit
append_items-requires-clause-fit c = listed_records c.fields-fields.result c.fields-fields.ensures.spelled

pub append_str-requires-3-clause-ascii : goal.append_str-requires-3-clause-ascii
append_str-requires-3-clause-ascii c = grind (ints, arith, common_steps)

pub append_items-requires-clause-room : goal.append_items-requires-clause-room
append_items-requires-clause-room c = grind (ints, arith, common_steps)

pub append_values-requires-clause-fit : goal.append_values-requires-clause-fit
append_values-requires-clause-fit c = grind (ints, arith, common_steps)

pub append_str-requires-2-clause-ascii : goal.append_str-requires-2-clause-ascii
append_str-requires-2-clause-ascii c = grind (ints, arith, common_steps)

pub append_str-requires-clause-ascii : goal.append_str-requires-clause-ascii
append_str-requires-clause-ascii c = grind (ints, arith, common_steps)
