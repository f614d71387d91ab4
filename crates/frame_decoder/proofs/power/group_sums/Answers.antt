use Rattle.frame_decoder.proofs.Common.{◌≡◌, ◌<◌, ◌∙◌, length, get_or, pos, arith, rules, length-set, map-places-all, added_fits, stored_is}
use Rattle.frame_decoder.proofs.Common.{group_sum}
use Rattle.frame_decoder.proofs.PowerSums.{set_more, pair_small, pair_is}
use Rattle.frame_decoder.proofs.power.group_sums.Goals as goal

-- A group's two soft values can be added: the places of its power control bit are two different
-- ones of the frame, so both sizes together are at most that of all of the frame's soft values.
pub overflow_add-sums : goal.overflow_add-sums
overflow_add-sums c =
    let softs = c.args.softs.now in
    let replaced = c.args.replaced.now in
    let first = c.from-first.result in
    let second = c.from-second.result in
    let long : length softs ≡ 384 = search rules in
    let many : length replaced ≡ 32 = search rules in
    added_fits (get_or softs first (pos 0)) (get_or softs second (pos 0))
    (pair_small replaced softs c.loop-group.group first second c.from-first.ensures
    c.from-second.ensures c.loop-group-test.true many long c.requires.below c.requires.rising
    c.requires.bound)

-- The sum of one group more is the sum of the soft values at the two places of its power control
-- bit; it fits into 64 bits, since the sizes of all soft values of the frame add up to at most
-- 2^62.
pub loop-group-preserved : goal.loop-group-preserved
loop-group-preserved c =
    let softs = c.args.softs.now in
    let replaced = c.args.replaced.now in
    let g = c.loop-group.group in
    let first = c.from-first.result in
    let second = c.from-second.result in
    let long : length softs ≡ 384 = search rules in
    let many : length replaced ≡ 32 = search rules in
    let had = c.loop-group.invariant in
    let room : g < length c.loop-group.sums = omega (arith, had.long, c.loop-group-test.true) in
    let small = pair_small replaced softs g first second c.from-first.ensures
    c.from-second.ensures c.loop-group-test.true many long c.requires.below c.requires.rising
    c.requires.bound in
    record {
      long = length-set c.loop-group.sums g _ ∙ had.long;
      each = set_more (group_sum replaced softs) c.loop-group.sums g _ (pos 0) room
          (stored_is (get_or softs first (pos 0)) (get_or softs second (pos 0)) small
          ∙ pair_is replaced softs g first second c.from-first.ensures c.from-second.ensures)
          had.each;
    }

pub returns : goal.returns
returns c =
    let had = c.loop-group.invariant in
    map-places-all (group_sum c.args.replaced.now c.args.softs.now) c.loop-group.sums 16 (pos 0)
    had.long (λ k lt. had.each k (omega (arith, lt)))
