use Rattle.traffic_message.proofs.Common.{◌≡◌, ◌+◌, ◌≤◌, ◌++◌, List, ◌∷◌, Bool, length, refl, sym, ap, subst, ◌∙◌, arith, FillsCapsule, M16}
use Rattle.traffic_message.proofs.Common.{bits_of, head_contents, head_shape, head_values, kind_of, length-in_widths, traffic_message_body}
use Rattle.traffic_message.proofs.Common.{spelling, typed_widths, Message}
use Rattle.traffic_message.proofs.Bodies.{length-message, message_written}
use Rattle.traffic_message.proofs.ByLayout.{head_lawful, head_written}
use Rattle.traffic_message.proofs.message.TrafficMessage.spelled_body.Goals.{After-append, After-contents}
use Rattle.traffic_message.proofs.message.TrafficMessage.spelled_body.Goals as goal

-- the type and the head, which have 17 bits
head_is : (c : After-contents) → c.contents.result ≡ head_contents (kind_of c.self.inside.body) c.self.inside.head
head_is c = c.contents.ensures ∙ ap (λ k. head_contents k c.self.inside.head) c.kind.ensures

head_long : (c : After-contents) → length (spelling head_shape c.contents.result) ≡ 17
head_long c =
    let h = c.self.inside.head in
    let k = kind_of c.self.inside.body in
    ap length (head_written k h c.contents.result c.self.invariant.kind.0 c.self.invariant.head
    (head_is c)).1 ∙ length-in_widths typed_widths (k ∷ head_values h) refl

head_alone : (c : After-append) → c.append.new.body ≡ spelling head_shape c.contents.result
head_alone c =
    c.append.ensures
    ∙ ap (λ (r : List Bool). r ++ spelling head_shape c.contents.result) c.empty-body.ensures

-- a body has at most 1,160 bits
most : (m : Message) → FillsCapsule M16 (traffic_message_body m) → 17 + length (bits_of m.body) ≤ 1160
most m fills = omega (arith, fills.whole, fills.most, length-message m)

pub append-requires-clause-lawful : goal.append-requires-clause-lawful
append-requires-clause-lawful c = head_lawful

pub append-requires-clause-room : goal.append-requires-clause-room
append-requires-clause-room c =
    let long = head_long (goal.at.append-requires-clause-room c).After-contents in
    omega (arith, ap length c.empty-body.ensures, long)

pub append_to-requires : goal.append_to-requires
append_to-requires c =
    let d = (goal.at.append_to-requires c).After-append in
    omega (
      arith,
      most (record { head = c.self.inside.head; body = c.self.inside.body }) c.self.invariant.fills,
      ap length (head_alone d),
      head_long (goal.at.append_to-requires c).After-contents,
    )

pub returns-clause-value : goal.returns-clause-value
returns-clause-value c =
    let d = (goal.at.returns-clause-value c).After-append in
    message_written (record { head = c.self.inside.head; body = c.self.inside.body })
    c.contents.result c.append.new.body c.append_to.new.body c.self.invariant
    (head_is (goal.at.returns-clause-value c).After-contents) (head_alone d) c.append_to.ensures
    ∙ ap traffic_message_body c.self.view_is

pub returns-clause-fills : goal.returns-clause-fills
returns-clause-fills c =
    subst (FillsCapsule M16)
    (sym (returns-clause-value c
    ∙ ap traffic_message_body (sym c.self.view_is))) c.self.invariant.fills
