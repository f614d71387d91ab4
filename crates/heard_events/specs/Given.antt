-- Events in the order in which they are returned.
use Rattle.heard_events.specs.Common.{Event, Pilot, Sync, Frame, Sets}
use Rattle.std.specs.Prelude.{ℕ, List, [], ◌∷◌, Option, Some, None}
use Rattle.heard_events.specs.declared.event.Event.TheVariants.{Paging, Traffic}

-- an optional event, as a list
abbrev pub event_list : Option Event → List Event
event_list None = []
event_list (Some event) = event ∷ []

-- the number of samples taken when an event ends; the pilot is found before any sample is taken
abbrev pub at_of : Event → ℕ
at_of (Pilot phase energy) = 0
at_of (Sync at' capsule message) = at'
at_of (Paging at' capsule message) = at'
at_of (Frame at' rate good bits power_bits) = at'
at_of (Traffic at' capsule message) = at'
at_of (Sets at' time active candidate report) = at'
