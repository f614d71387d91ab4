-- The bodies of messages.
use Rattle.traffic_message.specs.Common.{number_at}
use Rattle.std.specs.Prelude.{◌≡◌, ◌&&◌, Bool, List, length, drop, nat_le, is_some}
use Rattle.traffic_message.specs.Messages.{Message, traffic_message_body, IsTrafficMessage}
use Rattle.traffic_message.specs.Reading.{head_at, part_reading}

-- whether there is a head, and the bits after it can be read by the layout of their form
unfoldable pub traffic_admits : List Bool → Bool
traffic_admits body =
    nat_le 17 (length body)
    && is_some (part_reading (number_at 0 8 body) (head_at body).encryption (drop 17 body))

-- a message that a body spells
pub record HasTrafficMessage (body : List Bool) : Type 0 where
  pub message : Message
  pub spelled : IsTrafficMessage message
  pub same : body ≡ traffic_message_body message
