use Rattle.event_tap.proofs.Common.{common_steps, ints, ◌*◌, ◌≤◌, length, map, ap, arith, height_at, height, record_bytes}
use Rattle.std.proofs.Math.Nat.{mul-le-mul_left}
use Rattle.event_tap.proofs.PartTexts.{length-named}
use Rattle.event_tap.proofs.said.append_list.Goals.{After-append_name}
use Rattle.event_tap.proofs.said.append_list.Goals as goal

-- there are at most 128 records
few : (c : After-append_name) →
    record_bytes (map (λ row. row.1) c.args.records.now.fields.now) * height c.args.columns.now
    ≤ record_bytes (map (λ row. row.1) c.args.records.now.fields.now) * 128
few c =
    let columns = c.args.columns.now in
    mul-le-mul_left (record_bytes (map (λ row. row.1) c.args.records.now.fields.now))
    (omega (
      arith,
      height_at columns c.index-columns-0.result (omega (arith, c.told-columns)),
      c.len-count.ensures.value,
      c.len-count.ensures.most,
    ))

pub append_items-requires-clause-room : goal.append_items-requires-clause-room
append_items-requires-clause-room c =
    omega (
      arith,
      few (goal.at.append_items-requires-clause-room c).After-append_name,
      c.append_name.ensures.len,
      length-named c.as_bytes.result.now,
      ap length c.as_bytes.ensures.value,
      c.requires.room,
    )

pub returns-clause-len : goal.returns-clause-len
returns-clause-len c =
    omega (
      arith,
      few (goal.at.returns-clause-len c).After-append_name,
      c.append_items.ensures.len,
      c.append_name.ensures.len,
      length-named c.as_bytes.result.now,
      ap length c.as_bytes.ensures.value,
    )

pub append_name-requires-clause-ascii : goal.append_name-requires-clause-ascii
append_name-requires-clause-ascii c = grind (ints, arith, common_steps)

pub returns-clause-value : goal.returns-clause-value
returns-clause-value c = grind (ints, arith, common_steps)

pub returns-then-is_empty-clause-value : goal.returns-then-is_empty-clause-value
returns-then-is_empty-clause-value c = grind (ints, arith, common_steps)

pub append_name-requires-clause-room : goal.append_name-requires-clause-room
append_name-requires-clause-room c = grind (ints, arith, common_steps)
