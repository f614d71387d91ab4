-- The signaling messages of the traffic channel (TIA/EIA-95-B, 7.7.3).
use Rattle.traffic_message.specs.Common.{binary, field, spelled, FieldsFit, CheckForm, FillsCapsule}
use Rattle.traffic_message.specs.Common.{capsule, M16, Head}
use Rattle.std.specs.Prelude.{ℕ, ◌≡◌, ◌≢◌, ◌⊎◌, Bool, true, List, [], ◌∷◌, ◌++◌}
use Rattle.traffic_message.specs.Handoff.{is_hard, IsHandoffDirection}
use Rattle.traffic_message.specs.InTraffic.{IsInTraffic}
pub use Rattle.traffic_message.specs.Layouts.{bits_of, head_fields, head_values}
use Rattle.traffic_message.specs.Neighbors.{IsNeighborUpdate}
use Rattle.traffic_message.specs.declared.body.TrafficBody.{TrafficBody}
use Rattle.traffic_message.specs.declared.body.TrafficBody.TheVariants as bodies

-- a message: its head and its content
pub record Message : Type 0 where
  pub head : Head
  pub body : TrafficBody

-- the message type
abbrev pub kind_of : TrafficBody → ℕ
kind_of (bodies.System m) = 7
kind_of (bodies.Neighbors m) = 8
kind_of (bodies.Handoff m) = 17
kind_of (bodies.Other kind bits) = kind

-- the body of the message's capsule: the type, the head and the content after it
unfoldable pub traffic_message_body : Message → List Bool
traffic_message_body m = binary 8 (kind_of m.body)
    ++ (spelled (head_fields m.head) ++ bits_of m.body)

-- A type with fields of its own is read by them if nothing is encrypted; a hard handoff is passed
-- on as it is.
abbrev pub IsOfKind : Head → TrafficBody → Type 0
IsOfKind head (bodies.System m) = (head.encryption ≡ 0) × IsInTraffic m
IsOfKind head (bodies.Neighbors m) = (head.encryption ≡ 0) × IsNeighborUpdate m
IsOfKind head (bodies.Handoff m) = (head.encryption ≡ 0) × IsHandoffDirection m
IsOfKind head (bodies.Other kind bits) =
    (head.encryption ≢ 0) ⊎ ((kind ≢ 7) × (kind ≢ 8) × ((kind ≢ 17) ⊎ (is_hard bits ≡ true)))

-- the message has a spelling
pub record IsTrafficMessage (m : Message) : Type 0 where
  pub kind : FieldsFit (field 8 (kind_of m.body) ∷ [])
  pub head : FieldsFit (head_fields m.head)
  pub says : IsOfKind m.head m.body
  pub fills : FillsCapsule M16 (traffic_message_body m)

unfoldable pub traffic_capsule : CheckForm → Message → List Bool
traffic_capsule form m = capsule M16 form (traffic_message_body m)
