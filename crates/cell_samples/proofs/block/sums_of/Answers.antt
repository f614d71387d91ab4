use Rattle.cell_samples.proofs.Common.{ints, common_steps, ◌≡◌, ◌≤◌, ◌<◌, ◌*◌, ◌^◌, length, map, get_or, refl, sym, ap, ◌∙◌, ◌+◌, arith, ℤ}
use Rattle.cell_samples.proofs.Common.{pos, to_z, of_z, unsigned_abs, get_or-map, All-get_or, origin, plus, IsWithin, IsLevel, ChannelState}
use Rattle.cell_samples.proofs.Common.{carrier_of, level, scaled, read64}
use Rattle.std.specs.Int.{w64}
use Rattle.std.proofs.lemmas.List as lists
use Rattle.cell_samples.proofs.Blocks as blocks
use Rattle.cell_samples.proofs.block.sums_of.Goals as goal

pub loop-n-init : goal.loop-n-init
loop-n-init c = record {
  long = refl;
  small = blocks.none_within;
  summed = λ first whole are.
      blocks.nothing_summed first c.args.factor (map carrier_of c.args.channels.now);
}

-- There is room for one channel more in a sum: of at most 127 channels each has added at most 2^31
-- in size to either branch.
pub with_level-requires-clause-sum : goal.with_level-requires-clause-sum
with_level-requires-clause-sum c =
    let inv = c.loop-n.invariant in
    let few : c.loop-n.n ≤ 127 = omega (arith, c.loop-n-test.true, c.requires.few) in
    let inside : c.from-row.result < length c.loop-n.sums =
    omega (arith, c.from-row.ensures, c.row.ensures.below, inv.long) in
    let here = All-get_or (IsWithin (2 ^ 31 * c.loop-n.n)) c.loop-n.sums c.from-row.result origin
    inside inv.small in
    (omega (arith, here.0, few), omega (arith, here.1, few))

-- One channel more is in the sums: its level times the link's factor is added at its own row, so
-- each row has the sum over the channels so far that are sent on it, and no sum outgrows that many
-- channels of the greatest level.
pub loop-n-preserved : goal.loop-n-preserved
loop-n-preserved c =
    let inv = c.loop-n.invariant in
    let n = c.loop-n.n in
    let item = c.index-channels-n.result in
    let channels = c.args.channels.now in
    let channel = get_or channels n item in
    let cs = map carrier_of channels in
    let l = get_or c.args.levels.now n (pos 0) in
    let inside : c.from-row.result < length c.loop-n.sums =
    omega (arith, c.from-row.ensures, c.row.ensures.below, inv.long) in
    let here : n < length cs = omega (arith, c.loop-n-test.true, lists.length-map channels carrier_of) in
    let room : n < length c.args.levels.now = omega (arith, c.loop-n-test.true, c.requires.few) in
    let small : unsigned_abs l ≤ 65535 = All-get_or IsLevel c.args.levels.now n (pos 0) room c.requires.small in
    let is : get_or cs n (carrier_of item) ≡ carrier_of channel = get_or-map carrier_of channels n item in
    let read : to_z w64 (of_z w64 l) ≡ l = read64 l (omega (arith, small)) in
    let added : c.with_level.result
    ≡ plus (get_or c.loop-n.sums c.from-row.result origin) (scaled l c.args.factor) =
    c.with_level.ensures
    ∙ ap (λ (x : ℤ).
    plus (get_or c.loop-n.sums c.from-row.result origin) (scaled x c.args.factor)) read in
    record {
      long = lists.length-set c.loop-n.sums c.from-row.result c.with_level.result ∙ inv.long;
      small = blocks.grows n c.from-row.result c.loop-n.sums c.with_level.result c.args.factor l
          inside small c.requires.factor added inv.small;
      summed = λ first whole are.
          blocks.one_summed first n c.from-row.result c.args.factor cs (carrier_of channel)
          c.loop-n.sums c.with_level.result l (carrier_of item) whole here is
          (c.from-row.ensures ∙ c.row.ensures.value
          ∙ ap (λ (x : ChannelState). x.row) c.index-channels-n.is) inside
          (λ k low. ap (level (first + k)) (sym is) ∙ are n (carrier_of item) here k low) added
          (inv.summed first whole are);
    }

pub transform64-requires : goal.transform64-requires
transform64-requires c =
    blocks.all_within c.loop-n.n c.loop-n.sums
    (omega (arith, c.loop-n.auto, c.loop-n-test.false, c.requires.few)) c.loop-n.invariant.small

pub returns : goal.returns
returns c first whole are =
    let inv = c.loop-n.invariant in
    let cs = map carrier_of c.args.channels.now in
    let past : length cs ≤ c.loop-n.n =
    omega (arith, c.loop-n-test.false, lists.length-map c.args.channels.now carrier_of) in
    blocks.all_summed first c.loop-n.n c.args.factor cs c.loop-n.sums
    c.transform64.new.values past
    (inv.summed first whole are) c.transform64.ensures.in_phase c.transform64.ensures.quadrature

pub with_level-requires-clause-level : goal.with_level-requires-clause-level
with_level-requires-clause-level c = grind (ints, arith, common_steps)
