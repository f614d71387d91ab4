-- Bodies and capsules read as messages.
use Rattle.traffic_message.proofs.Common.{◌≡◌, Bool, List, refl, sym, ap, ◌∙◌, Option, Some, None, IfSome, CheckForm, M16, Message, AreRead}
use Rattle.traffic_message.proofs.Common.{traffic_message_body, traffic_capsule, IsTrafficMessage, read_by_spelling}
use Rattle.traffic_message.proofs.Bodies.{message_again, message_there}
use Rattle.traffic_message.specs.Reading as reading

-- BODIES
pub body_found : (body : List Bool) (result : Option Message) → result ≡ reading.traffic_body_reading body →
    IfSome result (λ m. IsTrafficMessage m × (body ≡ traffic_message_body m))
body_found body None e = tt
body_found body (Some m) e = message_there body m (sym e)

pub body_only : (body : List Bool) (result : Option Message) (m : Message) →
    result ≡ reading.traffic_body_reading body → IsTrafficMessage m → body ≡ traffic_message_body m → result ≡ Some m
body_only body result m e is same = e ∙ ap reading.traffic_body_reading same ∙ message_again m is

-- CAPSULES
pub are_read : (form : CheckForm) →
    AreRead M16 form IsTrafficMessage traffic_message_body (traffic_capsule form) reading.traffic_body_reading
    (reading.traffic_reading form)
unfolding traffic_capsule reading.traffic_reading
are_read form =
    read_by_spelling M16 form IsTrafficMessage traffic_message_body (traffic_capsule form)
    reading.traffic_body_reading (reading.traffic_reading form) 24 refl (λ m. refl) (λ bits. refl)
    (λ m is. is.fills) message_again message_there
