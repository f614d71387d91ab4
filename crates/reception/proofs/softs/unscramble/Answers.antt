use Rattle.reception.proofs.Common.{common_steps, ints, ◌≡◌, ◌<◌, ℕ, ◌∙◌, ap, arith, rules, ℤ, length, get_or, pos, false, ◌*ℤ◌, to_z-of_z}
use Rattle.reception.proofs.Common.{unsigned_abs, sum_by-set, SFits, w64, sign}
use Rattle.reception.proofs.Descrambled.{descrambled_more}
use Rattle.reception.proofs.softs.unscramble.Goals as goal

-- One soft value more is unscrambled: it is the value times the sign of its bit, which fits since
-- it is no greater than before, and neither the values before it nor the sum of all sizes changes.
pub loop-i-preserved : goal.loop-i-preserved
loop-i-preserved c =
    let bits = c.args.bits.now in
    let old = c.args.softs.now in
    let now = c.loop-i.softs in
    let i : ℕ = c.loop-i.i in
    let v : ℤ = c.descrambled_value.result in
    let fits : SFits w64 v = search rules in
    let kept = to_z-of_z w64 v fits in
    let x : ℤ = get_or now i (pos 0) in
    let fits' : SFits w64 x = search rules in
    let read = to_z-of_z w64 x fits' in
    let few : i < length bits = search rules in
    let long : length now ≡ length old = search rules in
    let many : i < length old = search rules in
    let value : v ≡ sign (get_or bits i false) *ℤ x =
    c.descrambled_value.ensures.value ∙ ap (λ y. sign (get_or bits i false) *ℤ y) read in
    let size : unsigned_abs v ≡ unsigned_abs x = c.descrambled_value.ensures.size ∙ ap unsigned_abs read in
    rw kept (record {
      value = descrambled_more bits old now i v few many c.loop-i.invariant.value value;
      small =
          let sum = sum_by-set unsigned_abs now i v (pos 0) (omega (arith, many, long)) in
          omega (arith, sum, size, c.loop-i.invariant.small);
    })

pub descrambled_value-requires : goal.descrambled_value-requires
descrambled_value-requires c = grind (ints, arith, common_steps)

pub bounds-softs-i : goal.bounds-softs-i
bounds-softs-i c = grind (ints, arith, common_steps)

pub offset_bounds-softs-i-in-loop-i : goal.offset_bounds-softs-i-in-loop-i
offset_bounds-softs-i-in-loop-i c = grind (ints, arith, common_steps)
