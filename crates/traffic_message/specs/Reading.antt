-- The message that a body or a capsule spells, as a function of its bits: each field is the number
-- at its place, after the head by the layout of the type.
use Rattle.traffic_message.specs.Common.{number_at, values_at, CheckForm, if_spelled, Head}
use Rattle.std.specs.Prelude.{ℕ, ◌-◌, ◌%◌, ◌==◌, ◌&&◌, if◌then◌else◌, Bool, List, length, take}
use Rattle.std.specs.Prelude.{drop, get_or, nat_le, Option, None}
use Rattle.message_layout.specs.Reading.{mapped, reading}
use Rattle.traffic_message.specs.Layouts.{body_from, form_at, traffic_shape_of}
use Rattle.traffic_message.specs.Messages.{Message, traffic_capsule}
use Rattle.traffic_message.specs.Widths.{head_widths}
use Rattle.traffic_message.specs.declared.body.TrafficBody.{TrafficBody}

-- the head with these values
unfoldable pub head_of : List ℕ → Head
head_of values = record {
  ack_seq = get_or values 0 0;
  msg_seq = get_or values 1 0;
  ack_req = get_or values 2 0 == 1;
  encryption = get_or values 3 0;
}

unfoldable pub head_at : List Bool → Head
head_at body = head_of (values_at head_widths (drop 8 body))

-- the content that the bits after the head spell by the layout of its form
unfoldable pub part_reading : ℕ → ℕ → List Bool → Option TrafficBody
part_reading kind encryption bits =
    let form = form_at kind encryption bits in
    mapped (body_from form kind) (reading (traffic_shape_of form) bits)

-- whether the length is that of a capsule's body with at least a type and a head
unfoldable pub is_traffic_body : List Bool → Bool
is_traffic_body body = length body % 8 == 0
    && (nat_le 17 (length body) && nat_le (length body) 1160)

-- the message that has this body
unfoldable pub traffic_body_reading : List Bool → Option Message
traffic_body_reading body =
    let head = head_at body in
    if is_traffic_body body then mapped (λ part. record { head = head; body = part })
    (part_reading (number_at 0 8 body) head.encryption (drop 17 body)) else None

-- the message that has this capsule
unfoldable pub traffic_reading : CheckForm → List Bool → Option Message
traffic_reading form capsule =
    if_spelled (traffic_capsule form) capsule
    (traffic_body_reading (take (length capsule - 24) (drop 8 capsule)))
