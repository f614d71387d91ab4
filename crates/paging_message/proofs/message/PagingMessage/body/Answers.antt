use Rattle.paging_message.proofs.Common.{◌≡◌, ◌++◌, List, Bool, length, sym, ap, subst, ◌∙◌, arith, length-append, binary, length-binary}
use Rattle.paging_message.proofs.Common.{FillsCapsule, M30, shape, spelling}
use Rattle.paging_message.proofs.ByLayout.{lawful}
use Rattle.paging_message.proofs.Messages.{written}
use Rattle.paging_message.proofs.message.PagingMessage.body.Goals as goal

pub append-requires-clause-lawful : goal.append-requires-clause-lawful
append-requires-clause-lawful c = rw c.layout_of.ensures.shape (lawful c.kind-kind.result)

pub append-requires-clause-contents : goal.append-requires-clause-contents
append-requires-clause-contents c =
    (written c.args.self.now c.kind-kind.result _ c.contents.result c.contents.ensures.spelled
    c.kind-kind.ensures c.layout_of.ensures.shape c.contents.ensures.value).is

pub append-requires-clause-room : goal.append-requires-clause-room
append-requires-clause-room c =
    omega (
      arith,
      (written c.args.self.now c.kind-kind.result _ c.contents.result c.contents.ensures.spelled
          c.kind-kind.ensures c.layout_of.ensures.shape c.contents.ensures.value).room,
      ap length c.append_number.ensures,
      ap length c.empty-body.ensures,
      length-append c.empty-body.result (binary 8 c.from.result),
      length-binary 8 c.from.result,
    )

pub returns-clause-value : goal.returns-clause-value
returns-clause-value c =
    let w = written c.args.self.now c.kind-kind.result _ c.contents.result
    c.contents.ensures.spelled c.kind-kind.ensures c.layout_of.ensures.shape c.contents.ensures.value in
    let typed : c.append_number.new.self ≡ binary 8 c.kind-kind.result =
    c.append_number.ensures
    ∙ ap (λ (r : List Bool). r ++ binary 8 c.from.result) c.empty-body.ensures
    ∙ ap (binary 8) c.from.ensures in
    c.append.ensures ∙ ap (λ (r : List Bool). r ++ spelling (shape c.layout_of.result) c.contents.result) typed ∙ w.same

pub returns-clause-fills : goal.returns-clause-fills
returns-clause-fills c =
    subst (FillsCapsule M30) (sym (returns-clause-value c))
    (written c.args.self.now c.kind-kind.result _ c.contents.result c.contents.ensures.spelled
    c.kind-kind.ensures c.layout_of.ensures.shape c.contents.ensures.value).fills
