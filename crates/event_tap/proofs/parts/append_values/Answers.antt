use Rattle.event_tap.proofs.Common.{common_steps, ints, length, map, sym, ap, subst, arith, length-map, IsAscii}
use Rattle.event_tap.proofs.PartTexts.{name_ascii, name_short, no_values, value_after, value_short}
use Rattle.event_tap.proofs.parts.append_values.Goals as goal

pub loop-i-init : goal.loop-i-init
loop-i-init c = record { value = no_values c.args.text.now; long = omega arith }

pub append_value-requires-clause-ascii : goal.append_value-requires-clause-ascii
append_value-requires-clause-ascii c =
    let table = c.args.table.now in
    let names = map (λ row. row.0.now) table in
    subst IsAscii (sym c.name_in.ensures)
    (name_ascii names (map (λ row. row.1) table) c.loop-i.i c.requires.short
    (omega (arith, length-map table (λ row. row.0.now), c.loop-i-test.true)))

pub append_value-requires-clause-short : goal.append_value-requires-clause-short
append_value-requires-clause-short c =
    let table = c.args.table.now in
    let names = map (λ row. row.0.now) table in
    omega (
      arith,
      ap length c.name_in.ensures,
      name_short names (map (λ row. row.1) table) c.loop-i.i c.requires.short
          (omega (arith, length-map table (λ row. row.0.now), c.loop-i-test.true)),
    )

pub append_value-requires-clause-few : goal.append_value-requires-clause-few
append_value-requires-clause-few c =
    let table = c.args.table.now in
    value_short (map (λ row. row.0.now) table) (map (λ row. row.1) table) c.args.values.now
    c.loop-i.i c.requires.short c.requires.fit (omega (arith, length-map table (λ row. row.1), c.loop-i-test.true))
    (omega (arith, c.requires.all, c.loop-i-test.true))

-- One value more stands in the text, after its own name, and the text is at most 16 bytes longer:
-- name and value are both at place i of their lists.
pub loop-i-preserved : goal.loop-i-preserved
loop-i-preserved c =
    let table = c.args.table.now in
    let names = map (λ row. row.0.now) table in
    let values = c.args.values.now in
    let i = c.loop-i.i in
    record {
      value =
          value_after c.args.text.now c.loop-i.text c.append_value.new.text c.name_in.result.now
          names values i (omega (arith, length-map table (λ row. row.0.now), c.loop-i-test.true))
          (omega (arith, c.requires.all, c.loop-i-test.true)) c.loop-i.invariant.value
          c.name_in.ensures c.append_value.ensures.value;
      long = omega (arith, c.append_value.ensures.len, c.loop-i.invariant.long);
    }

pub returns-clause-value : goal.returns-clause-value
returns-clause-value c = grind (ints, arith, common_steps)
