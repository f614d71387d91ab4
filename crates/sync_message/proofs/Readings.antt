-- Capsules read as messages.
use Rattle.sync_message.proofs.Common.{◌≡◌, ◌-◌, ◌/◌, ◌%◌, ◌==◌, List, Bool, length, take, drop, refl, ap, ◌∙◌, arith, Some, nat_le, eq-eqb}
use Rattle.sync_message.proofs.Common.{and_parts, eqb-true, le-leb, leb-true, if_spelled, M30, sync_body_reading, sync_body, sync_capsule}
use Rattle.sync_message.proofs.Common.{IsSyncMessage, SyncFields}
use Rattle.chip_core.specs.declared.check_form.CheckForm.{CheckForm}
use Rattle.message_layout.proofs.Parts.{guard_some}
use Rattle.quality_bits.proofs.Decoded.{if_spelled-again, if_spelled-there, AreRead}
use Rattle.quality_bits.proofs.Wholes.{length-capsule}
use Rattle.sync_message.specs.Reading.{is_whole_capsule, sync_reading}
use Rattle.sync_message.proofs.Bodies.{fills_from, length-body}
use Rattle.sync_message.proofs.ByLayout.{body_again, body_is, body_there}

-- The capsule of a sync message is read as that message: it is whole octets and at most 1,184 bits
-- long, its check is that of its body, and the body's fields are read back as they were spelled.
pub reads_capsule : (form : CheckForm) (m : SyncFields) → IsSyncMessage m →
    sync_reading form (sync_capsule form m) ≡ Some m
unfolding sync_reading sync_capsule
reads_capsule form m is =
    let c = sync_capsule form m in
    let long = length-capsule M30 form (sync_body m) in
    let whole = eq-eqb (length c % 8) 0 (omega (arith, long, is.fills.whole)) in
    let most = le-leb (length c) 1184 (omega (arith, long, is.fills.whole, is.fills.most)) in
    rw (whole, most) (if_spelled-again M30 form sync_body sync_body_reading 38 m refl (body_again m is))

-- A capsule that is read as a sync message is that message's capsule: reading it tests that
-- spelling the message gives these very bits, and a capsule of whole octets and of at most 148 of
-- them has a body that fills it.
pub reading_is_message : (form : CheckForm) (bits : List Bool) (m : SyncFields) →
    sync_reading form bits ≡ Some m → IsSyncMessage m × (bits ≡ sync_capsule form m)
unfolding sync_reading sync_capsule
reading_is_message form bits m e =
    let read = sync_body_reading (take (length bits - 38) (drop 8 bits)) in
    let whole = guard_some (is_whole_capsule bits) (if_spelled (sync_capsule form) bits read) m e in
    let tests = and_parts (length bits % 8 == 0) (nat_le (length bits) 1184) whole.0 in
    let octets = eqb-true (length bits % 8) 0 tests.0 in
    let most = leb-true (length bits) 1184 tests.1 in
    let both = if_spelled-there (sync_capsule form) bits m read whole.1 in
    let long = ap length both.1 ∙ length-capsule M30 form (sync_body m) in
    let fills = fills_from (length bits / 8) (sync_body m)
    (omega (arith, octets, long, length-body m)) (omega (arith, most)) (omega (arith, octets, long)) in
    let said = body_is (take (length bits - 38) (drop 8 bits)) m both.0 in
    (record { said = said.0; fills = fills }, both.1)

-- WHAT THE CODE GIVES
pub are_read : (form : CheckForm) →
    AreRead M30 form IsSyncMessage sync_body (sync_capsule form) sync_body_reading (sync_reading form)
unfolding sync_capsule
are_read form =
    record {
      spells = λ m. refl;
      fills = λ m is. is.fills;
      again = body_again;
      there = body_there;
      capsule_again = reads_capsule form;
      capsule_there = reading_is_message form;
    }
