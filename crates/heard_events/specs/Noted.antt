-- Updates of the pilot sets by received messages (after TIA/EIA-95-B, 6.6.6.2).
use Rattle.heard_events.specs.Common.{superframe_chips, PagingMessage, Standing, with_thresholds}
use Rattle.heard_events.specs.Common.{with_neighbors, directed, Event, Mark}
use Rattle.std.specs.Prelude.{ℕ, ◌+◌, ◌-◌, ◌/◌, ◌==◌, if◌then◌else◌, List, [], ◌∷◌}
use Rattle.paging_message.specs.declared.system.SystemFields.{SystemFields}
use Rattle.pilot_sets.specs.declared.thresholds.Thresholds.{Thresholds}
use Rattle.traffic_message.specs.declared.body.TrafficBody.{TrafficBody}
use Rattle.traffic_message.specs.declared.fields.InTrafficFields.{InTrafficFields}
use Rattle.heard_events.specs.Given.{at_of}
use Rattle.heard_events.specs.declared.event.Event.TheVariants.{Paging, Traffic}
use Rattle.paging_message.specs.declared.message.PagingMessage.TheVariants as pages
use Rattle.traffic_message.specs.declared.body.TrafficBody.TheVariants as bodies

-- the thresholds of a System Parameters Message, and of an In-Traffic one
abbrev pub system_thresholds : SystemFields → Thresholds
system_thresholds f = record {
  win_a = f.wina;
  win_n = f.winn;
  t_add = f.tadd;
  t_drop = f.tdrop;
  t_comp = f.tcomp;
  t_tdrop = f.ttdrop;
}

abbrev pub in_traffic_thresholds : InTrafficFields → Thresholds
in_traffic_thresholds f = record {
  win_a = f.wina;
  win_n = f.winn;
  t_add = f.tadd;
  t_drop = f.tdrop;
  t_comp = f.tcomp;
  t_tdrop = f.ttdrop;
}

-- a paging message updates the sets if it comes from the reference's pilot
abbrev pub page_noted : ℕ → PagingMessage → Standing → Standing
page_noted pn (pages.System f) s = if f.pn == pn then with_thresholds (system_thresholds f) s else s
page_noted pn (pages.Neighbors f) s = if f.pn == pn then with_neighbors f.pns s else s
page_noted pn message s = s

-- a traffic message updates the sets; `first` is the time of the first moment at or after its end
abbrev pub body_noted : ℕ → TrafficBody → Standing → Standing
body_noted first (bodies.System f) s = with_thresholds (in_traffic_thresholds f) s
body_noted first (bodies.Neighbors f) s = with_neighbors f.pns s
body_noted first (bodies.Handoff f) s = directed first f s
body_noted first body s = s

-- the number, from 1 on, of the first moment at or after n samples; moments are a superframe apart
abbrev pub moment_from : Mark → ℕ → ℕ
moment_from m n = (n - (m.sample + 1)) / superframe_chips + 1

-- The sets after an event. `pn` is the offset of the reference's pilot, and `first` the time of the
-- first moment at or after the event's end.
abbrev pub noted_with : ℕ → ℕ → Event → Standing → Standing
noted_with pn first (Paging n capsule message) s = page_noted pn message s
noted_with pn first (Traffic n capsule message) s = body_noted first message.body s
noted_with pn first event s = s

abbrev pub noted : Mark → Event → Standing → Standing
noted m event s = noted_with m.pilot (m.time + moment_from m (at_of event)) event s

-- the sets after all of these events, one after the other
abbrev pub all_noted : Mark → List Event → Standing → Standing
all_noted m [] s = s
all_noted m (event ∷ events) s = all_noted m events (noted m event s)
