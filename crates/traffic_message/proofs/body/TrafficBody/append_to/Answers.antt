use Rattle.traffic_message.proofs.Common.{◌++◌, length, refl, ap, ◌∙◌, arith, form_in}
use Rattle.traffic_message.proofs.ByLayout.{lawful, written}
use Rattle.traffic_message.proofs.body.TrafficBody.append_to.Goals as goal

pub append-requires-clause-lawful : goal.append-requires-clause-lawful
append-requires-clause-lawful c = rw c.layout.ensures.shape (lawful (form_in c.args.self.now))

pub append-requires-clause-contents : goal.append-requires-clause-contents
append-requires-clause-contents c =
    (written c.args.self.now _ _ c.contents.result c.contents.ensures.fields refl
    c.layout.ensures.shape c.contents.ensures.value).0

pub append-requires-clause-room : goal.append-requires-clause-room
append-requires-clause-room c =
    omega (
      arith,
      c.requires,
      ap length (written c.args.self.now _ _ c.contents.result
          c.contents.ensures.fields refl c.layout.ensures.shape c.contents.ensures.value).1,
    )

pub returns : goal.returns
returns c =
    c.append.ensures
    ∙ ap (λ r. c.args.body.now ++ r)
    (written c.args.self.now _ _ c.contents.result c.contents.ensures.fields refl
    c.layout.ensures.shape c.contents.ensures.value).1
