-- The lines of events.
use Rattle.event_tap.specs.Common.{Event, Pilot, Sync, Frame, Traffic, Sets}
use Rattle.std.specs.Prelude.{ℕ, List}
use Rattle.std.specs.List.{flat_map}
use Rattle.event_tap.specs.FrameLines.{frame_line}
use Rattle.event_tap.specs.Lines.{pilot_line, sync_line}
use Rattle.event_tap.specs.PagingLines.{paging_line}
use Rattle.event_tap.specs.SetsLines.{sets_line}
use Rattle.event_tap.specs.TrafficLines.{traffic_line}
use Rattle.heard_events.specs.declared.event.Event.TheVariants.{Paging}

-- the line of an event
unfoldable pub event_line : Event → List ℕ
event_line (Pilot phase energy) = pilot_line phase energy
event_line (Sync place capsule message) = sync_line place message
event_line (Paging place capsule message) = paging_line place message
event_line (Frame place rate good bits power_bits) = frame_line place rate good bits power_bits
event_line (Traffic place capsule message) = traffic_line place message
event_line (Sets place time active candidate report) = sets_line place time active candidate report

-- the lines of events, in order
unfoldable pub events_text : List Event → List ℕ
events_text events = flat_map event_line events
