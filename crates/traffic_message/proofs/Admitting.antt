-- Which bodies are those of messages.
use Rattle.traffic_message.proofs.Common.{◌≡◌, Bool, List, Option, ap, drop, length, nat_le, refl, true, ◌∙◌, and_from, and_parts, le-leb}
use Rattle.traffic_message.proofs.Common.{leb-true, number_at, is_some, FillsCapsule, M16, HasTrafficMessage, traffic_admits, head_at, None}
use Rattle.traffic_message.proofs.Common.{part_reading, Some, Message, traffic_body_reading}
use Rattle.traffic_message.proofs.Bodies.{body_parts_read, body_read, is_body_from, is_body_parts, message_again, message_there}

some_if_is_some : {A : Type 0} (o : Option A) → is_some o ≡ true → (x : A) × (o ≡ Some x)
some_if_is_some None h = absurd (cc)
some_if_is_some (Some x) h = (x, refl)

-- A body that is admitted has a message: it is long enough for the head, its remaining bits can be
-- read as a part of its type, and what was read spells the bits that it was read from.
pub admitted_has : (body : List Bool) → FillsCapsule M16 body → traffic_admits body ≡ true → HasTrafficMessage body
unfolding traffic_admits
admitted_has body fills h =
    let kind = number_at 0 8 body in
    let head = head_at body in
    let bits = drop 17 body in
    let read = part_reading kind head.encryption bits in
    let both = and_parts (nat_le 17 (length body)) (is_some read) h in
    let t = is_body_from body fills (leb-true 17 (length body) both.0) in
    let part = some_if_is_some read both.1 in
    let m : Message = record { head = head; body = part.0 } in
    let spelled = message_there body m (body_read body part.0 t part.1) in
    record { message = m; spelled = spelled.0; same = spelled.1 }

-- The body of a message is admitted: the message is read back from it, so it has the 17 bits of
-- type and head, and what comes after them can be read by that type.
pub has_admitted : (body : List Bool) → HasTrafficMessage body → traffic_admits body ≡ true
unfolding traffic_admits
has_admitted body has =
    let kind = number_at 0 8 body in
    let head = head_at body in
    let bits = drop 17 body in
    let read : traffic_body_reading body ≡ Some has.message =
    ap traffic_body_reading has.same ∙ message_again has.message has.spelled in
    let parts = body_parts_read body has.message read in
    and_from (nat_le 17 (length body)) (is_some (part_reading kind head.encryption bits))
    (le-leb 17 (length body) (is_body_parts body parts.0).1) (ap is_some parts.2)
