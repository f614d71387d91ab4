-- The frames of a traffic channel as a handset receives them before its pilot sets change.
use Rattle.heard_events.specs.Common.{new_standing, Leg, Mark, Traffic}
use Rattle.std.specs.Prelude.{ℕ, List}
use Rattle.heard_events.specs.Legs.{legs_of}
use Rattle.heard_events.specs.declared.channel.CodeChannel.{CodeChannel}
use Rattle.heard_events.specs.declared.channel.CodeChannel.TheVariants as channels

abbrev pub traffic_channel : Traffic → CodeChannel
traffic_channel traffic = channels.Traffic traffic

-- the active pilots of any frame k: only the reference's
abbrev pub reference_alone : Traffic → Mark → ℕ → List Leg
reference_alone traffic m k = legs_of m (new_standing m.pilot traffic.row)
