use Rattle.traffic_message.proofs.Common.{◌≡◌, ℕ, true, Option, None, Some, drop, length, get_or, sym, ap, ◌∙◌, arith, length-drop, mapped}
use Rattle.traffic_message.proofs.Common.{is_traffic_body, traffic_body_reading, part_reading, TrafficBody}
use Rattle.traffic_message.proofs.Bodies.{AreParts, are_parts, is_body_parts, message, message_there, no_body, no_head, part_read}
use Rattle.traffic_message.proofs.message.TrafficMessage.read.Goals.{After-head_from-head}
use Rattle.traffic_message.proofs.message.TrafficMessage.read.Goals as goal

-- what is known after the head
tested : (c : After-head_from-head) → is_traffic_body c.args.body.now ≡ true
tested c = sym c.has_head.ensures ∙ c.if-not-has_head.false

parts : (c : After-head_from-head) →
    AreParts c.args.body.now c.in_ok-values.values (drop c.in_ok-values.from c.args.body.now)
parts c =
    are_parts c.args.body.now c.in_ok-values.values (drop c.in_ok-values.from c.args.body.now)
    (tested c) c.in_ok-values.ensures.values

following : (c : After-head_from-head) (k : ℕ) (read : Option TrafficBody) → k ≡ get_or c.in_ok-values.values 0 0 →
    read ≡ part_reading k c.head_from-head.result.encryption (drop c.in_ok-values.from c.args.body.now) →
    mapped (message c.head_from-head.result) read ≡ traffic_body_reading c.args.body.now
following c k read typed e =
    part_read c.args.body.now c.in_ok-values.values (drop c.in_ok-values.from c.args.body.now) k
    c.head_from-head.result read (tested c) (parts c) typed c.head_from-head.ensures e

pub returns-then-not-has_head : goal.returns-then-not-has_head
returns-then-not-has_head c = no_body c.args.body.now (sym c.has_head.ensures ∙ c.if-not-has_head.true)

pub returns-in_err-values : goal.returns-in_err-values
returns-in_err-values c =
    absurd (no_head c.args.body.now (sym c.has_head.ensures ∙ c.if-not-has_head.false)
    c.in_err-values.ensures.values)

pub head_from-head-requires : goal.head_from-head-requires
head_from-head-requires c =
    (are_parts c.args.body.now c.in_ok-values.values (drop c.in_ok-values.from c.args.body.now)
    (sym c.has_head.ensures ∙ c.if-not-has_head.false) c.in_ok-values.ensures.values).fit

pub overflow_cast-get : goal.overflow_cast-get
overflow_cast-get c = omega (arith, c.get.ensures, (parts (goal.at.overflow_cast-get c).After-head_from-head).small)

pub read-requires-clause-room : goal.read-requires-clause-room
read-requires-clause-room c =
    let d = (goal.at.read-requires-clause-room c).After-head_from-head in
    omega (
      arith,
      ap length (parts d).following,
      length-drop 17 c.args.body.now,
      (is_body_parts c.args.body.now (tested d)).2,
    )

pub returns-in_err-body : goal.returns-in_err-body
returns-in_err-body c =
    let none : c.from_residual-in_err-body.result ≡ None = cc in
    none ∙ following (goal.at.returns-in_err-body c).After-head_from-head c.get.result None
    c.get.ensures c.in_err-body.ensures

pub returns : goal.returns
returns c =
    following (goal.at.returns c).After-head_from-head c.get.result (Some c.in_ok-body.body)
    c.get.ensures c.in_ok-body.ensures

pub invariant_of-result : goal.invariant_of-result
invariant_of-result c =
    (message_there c.args.body.now (message c.head_from-head.result c.in_ok-body.body)
    (sym (following (goal.at.invariant_of-result c).After-head_from-head c.get.result
    (Some c.in_ok-body.body) c.get.ensures c.in_ok-body.ensures))).0
