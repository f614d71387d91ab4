-- The frames of a traffic channel that come back on a clean link, and the messages in them, as a
-- handset receives them (TIA/EIA-95-B, 7.1.3.5).
use Rattle.clean_link.specs.Common.{frames_of, cycled_frame, CellPlan, TrafficPlan, SetOneFrame}
use Rattle.clean_link.specs.Common.{Finger, Event, Frame, Leg, Traffic, capsule_with, signal_in}
use Rattle.clean_link.specs.Common.{message_events, sent_power_bits, received_frames, frame_ends}
use Rattle.clean_link.specs.Common.{signal_sent, signals_received}
use Rattle.std.specs.Prelude.{ℕ, ◌≡◌, ◌==◌, true, if◌then◌else◌, List, [], ◌∷◌, map}
use Rattle.std.specs.List.{flat_map}

-- A frame is heard only from the reference's pilot, on the channel's row. That pilot has all of the
-- handset's fingers, and the only power control subchannel.
pub record IsOnePilot (traffic : Traffic) (legs : List Leg) : Type 0 where
  pub finger : Finger
  pub row : finger.row ≡ traffic.row
  pub alone : legs ≡ record { reference = true; finger = finger; subchannel = 0 } ∷ []

-- ---- the events for the frames of a channel

-- the event of a frame that ends at n samples
abbrev pub sent_frame_event : ℕ → SetOneFrame → Event
sent_frame_event n f = Frame n f.rate true f.information (sent_power_bits f)

-- the events for the frame that is sent as frame `frame`
abbrev pub frame_told : CellPlan → TrafficPlan → ℕ → List Event
frame_told plan p frame =
    map (sent_frame_event (frame_ends plan p frame)) (cycled_frame (frames_of plan p) frame)

-- the frames of a channel from a mark at this local chip on
abbrev pub frames_of_channel : CellPlan → TrafficPlan → ℕ → List Event
frames_of_channel plan p mark_chip = flat_map (frame_told plan p) (received_frames plan p mark_chip)

-- the events for the first channel on a row
abbrev pub told_on_row : (TrafficPlan → List Event) → List TrafficPlan → ℕ → List Event
told_on_row told [] row = []
told_on_row told (p ∷ traffic) row = if p.row == row then told p else told_on_row told traffic row

-- the frames of the cell's traffic channel on a row, from a mark at this local chip on
unfoldable pub frames_sent : CellPlan → ℕ → ℕ → List Event
frames_sent plan row mark_chip =
    told_on_row (λ (p : TrafficPlan). frames_of_channel plan p mark_chip) plan.traffic row

-- ---- the messages that the signaling spells (TIA/EIA-95-B, 7.1.3.5.11 and 7.7.3)

-- the event, at the end of frame `frame`, for a capsule whose last bit lies in that frame, if the
-- capsule spells a message
abbrev pub message_told : CellPlan → TrafficPlan → ℕ → ℕ → List Event
message_told plan p mark_chip frame =
    flat_map
    (λ (f : SetOneFrame). message_events (frame_ends plan p frame)
    (signal_in plan.cell.check16
    (capsule_with (signals_received plan p mark_chip frame) (signal_sent f))))
    (cycled_frame (frames_of plan p) frame)

-- the messages of a channel's received frames, in order
abbrev pub messages_of_channel : CellPlan → TrafficPlan → ℕ → List Event
messages_of_channel plan p mark_chip =
    flat_map (message_told plan p mark_chip) (received_frames plan p mark_chip)

-- the messages of the cell's traffic channel on a row
unfoldable pub messages_sent : CellPlan → ℕ → ℕ → List Event
messages_sent plan row mark_chip =
    told_on_row (λ (p : TrafficPlan). messages_of_channel plan p mark_chip) plan.traffic row
