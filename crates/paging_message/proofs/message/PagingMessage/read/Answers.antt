use Rattle.paging_message.proofs.Common.{◌≡◌, ◌≤◌, None, Some, drop, length, subst, sym, ap, ◌∙◌, count_in, MessageShape}
use Rattle.paging_message.proofs.ByLayout.{few_records, lawful}
use Rattle.paging_message.proofs.Messages.{no_body, no_type, reads_by_layout, read_is_message, typed_length}
use Rattle.paging_message.proofs.message.PagingMessage.read.Goals as goal

pub returns-then-not-fills_capsule : goal.returns-then-not-fills_capsule
returns-then-not-fills_capsule c =
    no_body c.args.body.now (λ fills. cc (
      (c.fills_capsule.ensures c.args.body.now (sym c.len.ensures.value)).1 fills,
      c.if-not-fills_capsule.true,
    ))

pub returns-in_err-kind : goal.returns-in_err-kind
returns-in_err-kind c =
    let none : c.from_residual.result ≡ None = cc in
    none ∙ no_type c.args.body.now c.in_err-kind.ensures.kind

pub read_from-requires-clause-lawful : goal.read_from-requires-clause-lawful
read_from-requires-clause-lawful c = rw c.layout_of.ensures.shape (lawful c.in_ok-kind.kind)

-- Clause `room` of `read_from` holds, since at most 1146 bits follow the type in a body that fills
-- a capsule, and no type's layout has more than 128 records in 1,146 bits.
pub read_from-requires-clause-room : goal.read_from-requires-clause-room
read_from-requires-clause-room c =
    let body = c.args.body.now in
    let later = drop c.in_ok-kind.from body in
    subst (λ (s : MessageShape). count_in s.records (length later) ≤ 128) (sym c.layout_of.ensures.shape)
    (few_records c.in_ok-kind.kind (length later)
    (typed_length body later c.in_ok-kind.kind
    ((c.fills_capsule.ensures body (sym c.len.ensures.value)).0 c.if-not-fills_capsule.false) c.in_ok-kind.ensures.kind))

pub returns-in_err-contents : goal.returns-in_err-contents
returns-in_err-contents c =
    let body = c.args.body.now in
    let none : c.from_residual-in_err-contents.result ≡ None = cc in
    none ∙ reads_by_layout body (drop c.in_ok-kind.from body) c.in_ok-kind.kind _ None
    ((c.fills_capsule.ensures body (sym c.len.ensures.value)).0 c.if-not-fills_capsule.false) c.in_ok-kind.ensures.kind
    c.layout_of.ensures.shape c.in_err-contents.ensures.reading

pub of-requires : goal.of-requires
of-requires c =
    let body = c.args.body.now in
    read_is_message body (drop c.in_ok-kind.from body) c.in_ok-kind.kind _ c.in_ok-contents.contents
    ((c.fills_capsule.ensures body (sym c.len.ensures.value)).0 c.if-not-fills_capsule.false) c.in_ok-kind.ensures.kind
    c.layout_of.ensures.shape c.in_ok-contents.ensures.found

pub returns : goal.returns
returns c =
    let body = c.args.body.now in
    ap Some c.of.ensures
    ∙ reads_by_layout body (drop c.in_ok-kind.from body) c.in_ok-kind.kind _ (Some c.in_ok-contents.contents)
    ((c.fills_capsule.ensures body (sym c.len.ensures.value)).0 c.if-not-fills_capsule.false) c.in_ok-kind.ensures.kind
    c.layout_of.ensures.shape c.in_ok-contents.ensures.reading
