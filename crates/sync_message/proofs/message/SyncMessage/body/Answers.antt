use Rattle.sync_message.proofs.Common.{◌≡◌, ◌++◌, List, Bool, length, sym, ap, subst, ◌∙◌, arith, binary, length-binary, spelling, IsOf}
use Rattle.sync_message.proofs.Common.{FillsCapsule, M30, sync_message_shape, sync_body}
use Rattle.sync_message.proofs.ByLayout.{body_room, body_written, sync_lawful}
use Rattle.sync_message.proofs.message.SyncMessage.body.Goals as goal

pub append-requires-clause-lawful : goal.append-requires-clause-lawful
append-requires-clause-lawful c = sync_lawful

pub append-requires-clause-contents : goal.append-requires-clause-contents
append-requires-clause-contents c =
    subst (IsOf sync_message_shape) (sym c.contents_of.ensures)
    c.self.invariant.said

pub append-requires-clause-room : goal.append-requires-clause-room
append-requires-clause-room c =
    let one : c.append_number.new.self ≡ binary 8 1 =
    c.append_number.ensures ∙ ap (λ (r : List Bool). r ++ binary 8 1) c.empty-body.ensures in
    omega (
      arith,
      ap length one,
      length-binary 8 1,
      ap (λ said. length (spelling sync_message_shape said)) c.contents_of.ensures,
      body_room c.self.inside.fields c.self.invariant,
    )

pub returns-clause-value : goal.returns-clause-value
returns-clause-value c =
    let one : c.append_number.new.self ≡ binary 8 1 =
    c.append_number.ensures ∙ ap (λ (r : List Bool). r ++ binary 8 1) c.empty-body.ensures in
    body_written c.self.inside.fields c.append_number.new.self c.append.new.body one
    (c.append.ensures ∙ ap (λ said. c.append_number.new.self ++ spelling sync_message_shape said)
    c.contents_of.ensures) ∙ ap sync_body c.self.view_is

pub returns-clause-fills : goal.returns-clause-fills
returns-clause-fills c =
    subst (FillsCapsule M30) (sym (returns-clause-value c ∙ sym (ap sync_body c.self.view_is)))
    c.self.invariant.fills
