use Rattle.pilot_search.proofs.Common.{◌≡◌, ◌≤◌, ◌<◌, ◌+◌, ◌*◌, ◌^◌, ◌∙◌, List, ℤ, pos, ◌+ℤ◌, arith, ap, sym, subst, length, map, get_or}
use Rattle.pilot_search.proofs.Common.{to_z, of_z, w32, w64, unsigned_abs, to_z-of_z, fits_signed_from_abs, take_all, Each1-get_or, total}
use Rattle.pilot_search.proofs.LaneLemmas.{total_more, kept_lanes, wide_sum, far_sum}
use Rattle.pilot_search.proofs.lanes.total_of.Goals as goal

-- One lane more is added to the total: its value is read as it was written, since it is below 2^31
-- in size, and the total of eight such values stays far below 2^63.
pub loop-lane-preserved : goal.loop-lane-preserved
loop-lane-preserved c =
    let inv = c.loop-lane.invariant in
    let k = c.loop-lane.lane-index in
    let lanes = c.args.lanes in
    let items : List ℤ = map (to_z w32) (map (of_z w32) lanes) in
    let kept : items ≡ lanes = kept_lanes lanes c.requires.fit in
    let long : length items ≡ 8 = ap (λ (xs : List ℤ). length xs) kept ∙ c.requires.long in
    let small : unsigned_abs (get_or items k (pos 0)) < 2 ^ 31 =
    subst (λ (xs : List ℤ). unsigned_abs (get_or xs k (pos 0)) < 2 ^ 31) (sym kept)
    (Each1-get_or (λ x. unsigned_abs x < 2 ^ 31) lanes k (pos 0)
    (omega (arith, c.loop-lane-test.true, c.requires.long)) c.requires.fit) in
    let here : c.from-sum.result ≡ get_or items k (pos 0) = c.from-sum.ensures ∙
    to_z-of_z w32 (get_or items k (pos 0)) (fits_signed_from_abs w32 (get_or items k (pos 0)) small) in
    let added = subst (λ (r : ℤ). unsigned_abs r < 2 ^ 31) (sym here) small in
    let s = to_z w64 c.loop-lane.sum-bits in
    let near : unsigned_abs s ≤ 2 ^ 40 = omega (arith, inv.bound, c.loop-lane-test.true) in
    let sum = wide_sum s c.from-sum.result near added in
    record {
      sum = sum ∙ ap (λ (z : ℤ). s +ℤ z) here ∙
          ap (λ (z : ℤ). z +ℤ get_or items k (pos 0)) inv.sum ∙
          sym (total_more items k (omega (arith, c.loop-lane-test.true, long)));
      bound = subst (λ (z : ℤ). unsigned_abs z ≤ 2147483648 * (k + 1)) (sym sum)
          (far_sum s c.from-sum.result (2147483648 * k) (2147483648 * (k + 1)) inv.bound added
          (omega arith));
    }

-- After all eight lanes the sum is their total: each lane fits into 32 bits, so what is read of it
-- is what it holds.
pub returns : goal.returns
returns c =
    let lanes = c.args.lanes in
    let items : List ℤ = map (to_z w32) (map (of_z w32) lanes) in
    let kept : items ≡ lanes = kept_lanes lanes c.requires.fit in
    let long : length items ≡ 8 = ap (λ (xs : List ℤ). length xs) kept ∙ c.requires.long in
    c.loop-lane.invariant.sum ∙
    ap total (take_all c.loop-lane.lane-index items (omega (arith, long, c.loop-lane-test.false))) ∙ ap total kept
