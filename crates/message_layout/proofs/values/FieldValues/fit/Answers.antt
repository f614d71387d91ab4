use Rattle.message_layout.proofs.Common.{◌<◌, ◌≤◌, ◌^◌, length, get_or, map, refl, subst, arith, length-map, FieldsFit, fit_value}
use Rattle.message_layout.proofs.Common.{width_within}
use Rattle.message_layout.proofs.Columns.{sent_all}
use Rattle.message_layout.proofs.Loops.{fit_more, not_both}
use Rattle.message_layout.proofs.values.FieldValues.fit.Goals as goal

pub has_width-requires : goal.has_width-requires
has_width-requires c =
    let rows = c.args.rows.now in
    let ws = map (λ row. row.1) rows in
    rw c.width_in.ensures
    (width_within ws c.loop-i.i c.requires.widths (omega (arith, length-map rows (λ row. row.1), c.loop-i-test.true)))

-- Where one value has more bits than its field the answer is no, and the values don't all fit: if
-- they did, this one would be below two to the power of its field's width.
pub returns-then-not-has_width : goal.returns-then-not-has_width
returns-then-not-has_width c =
    let rows = c.args.rows.now in
    let ws = map (λ row. row.1) rows in
    let vs = c.args.self.now in
    let i = c.loop-i.i in
    let lt : i < length ws = omega (arith, length-map rows (λ row. row.1), c.loop-i-test.true) in
    let few : i < length vs = omega (arith, c.requires.all, c.loop-i-test.true) in (
      λ never. absurd (not_both refl never),
      λ fit.
          let small : c.get.result < 2 ^ c.width_in.result =
          rw (c.get.ensures, c.width_in.ensures) (fit_value ws vs i fit lt few) in
          absurd (not_both c.if-not-has_width.true (c.has_width.ensures.1 small)),
    )

-- One value more fits its field, as it is below two to the power of the field's width, and the
-- values before it do.
pub loop-i-preserved : goal.loop-i-preserved
loop-i-preserved c =
    let rows = c.args.rows.now in
    let ws = map (λ row. row.1) rows in
    let vs = c.args.self.now in
    let i = c.loop-i.i in
    let lt : i < length ws = omega (arith, length-map rows (λ row. row.1), c.loop-i-test.true) in
    let few : i < length vs = omega (arith, c.requires.all, c.loop-i-test.true) in
    let small : get_or vs i 0 < 2 ^ (get_or ws i 0) =
    rw (← c.get.ensures, ← c.width_in.ensures) (c.has_width.ensures.0 c.if-not-has_width.false) in
    fit_more ws vs i lt few c.loop-i.invariant small

-- Where no value was too great all of them fit: as many were tried as the table has fields.
pub returns : goal.returns
returns c =
    let rows = c.args.rows.now in
    let ws = map (λ row. row.1) rows in
    let vs = c.args.self.now in
    let all : length ws ≤ c.loop-i.i =
    omega (arith, length-map rows (λ row. row.1), c.loop-i-test.false) in (
      λ passed. subst FieldsFit (sent_all ws vs c.loop-i.i all) c.loop-i.invariant,
      λ fit. refl,
    )
