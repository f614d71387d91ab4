-- Worked values of the messages of a traffic channel on a clean link, which the checker computes.
use Rattle.clean_link.specs.Common.{binary, places, Complemented, fields_at, group_at, number_part}
use Rattle.clean_link.specs.Common.{octets_at, part_at, presence_at, reading, records_at, capsule}
use Rattle.clean_link.specs.Common.{front_capsule, is_stated, capsule_ending, check_bits, R1200}
use Rattle.clean_link.specs.Common.{R9600, Message, traffic_message_body, traffic_capsule, split}
use Rattle.clean_link.specs.Common.{split_9600, traffic_body_reading, head_at, head_of, spelling}
use Rattle.clean_link.specs.Common.{is_traffic_body, part_reading, traffic_reading, Other, CellPlan}
use Rattle.clean_link.specs.Common.{SetOneFrame, cell_of_frames}
use Rattle.std.specs.Prelude.{◌≡◌, ℕ, refl, Bool, true, false, List, [], ◌∷◌, ◌++◌, take, drop}
use Rattle.std.specs.Prelude.{replicate}
use Rattle.heard_events.specs.declared.event.Event.TheVariants.{Traffic}
use Rattle.clean_link.specs.HeardFrames.{messages_sent}

-- a message of twelve octets, whose capsule has 120 bits
message : Message
message = record {
  head = record { ack_seq = 2; msg_seq = 3; ack_req = true; encryption = 0 };
  body = Other 1 (replicate 79 true);
}

spelled : List Bool
spelled = traffic_capsule Complemented message

-- a frame with 80 bits of primary traffic and 88 of signaling, the first of which says whether a
-- message begins there
signaling : Bool → List Bool → SetOneFrame
signaling starts part = record {
  rate = R9600;
  information = true ∷ replicate 83 false ++ starts ∷ part;
  power_bits = [];
}

-- a frame without signaling
slow : SetOneFrame
slow = record { rate = R1200; information = replicate 16 true; power_bits = [] }

-- the frames of a channel: the last part of the message comes with frame 32, the first one with 33
frames : List SetOneFrame
frames =
    signaling true (take 87 spelled)
    ∷ slow
    ∷ signaling false (drop 87 spelled ++ replicate 54 false)
    ∷ []

-- `samples` samples of a cell with this channel
cell : ℕ → CellPlan
cell samples = cell_of_frames 0 samples Complemented frames

-- After superframe 8 the message begins in frame 33 and ends in frame 35, at that frame's end. It
-- is lost if the file is one sample shorter, or if the mark lies after the beginning of its first
-- frame.
in_two_frames : (messages_sent (cell 887808) 9 786432 ≡ Traffic 887808 spelled message ∷ [])
    × (messages_sent (cell 887807) 9 786432 ≡ []) × (messages_sent (cell 887808) 9 814081 ≡ [])
unfolding cell frames slow signaling spelled message messages_sent split split_9600 capsule_ending
    front_capsule is_stated traffic_reading traffic_capsule traffic_message_body spelling
    traffic_body_reading is_traffic_body head_at head_of part_reading reading fields_at group_at
    presence_at octets_at number_part part_at records_at capsule check_bits binary places
in_two_frames = (refl, refl, refl)
