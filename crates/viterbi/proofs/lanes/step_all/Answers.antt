use Rattle.viterbi.proofs.Common.{ints, common_steps, ◌≡◌, ◌+◌, ◌*◌, ◌/◌, ◌%◌, ◌<◌, ◌-ℤ◌, ◌∙◌, ℕ, get_or, pos, rules, w64, map, to_z, arith}
use Rattle.viterbi.proofs.Common.{to_z-of_z, length-put_chunk, length-set, bit_of, metric_into, choice_into, number, AreGreater}
use Rattle.viterbi.proofs.ColumnSteps.{metric_fits, metrics_lanes, wings_more, choices_more}
use Rattle.viterbi.specs.contracts.lanes.step_all.{FORCED-type}
use Rattle.viterbi.proofs.Blocks.{kept}
use Rattle.viterbi.proofs.GreatestLanes.{AreTops, tops_first, tops_more, column_greatest}
use Rattle.viterbi.proofs.lanes.step_all.Goals as goal

nothing_yet : {A : Type 0} (t : ℕ) → t / 8 % 16 < 0 → A
nothing_yet t none = absurd (omega (arith, none))

-- Before the first block no state is done, so nothing is claimed of any, and the greatest values
-- begin at the least number of 64 bits, which no metric is below.
pub loop-k-init : goal.loop-k-init
loop-k-init g c =
    let forced = FORCED-type (number g.row.FORCED) in
    let et = to_z-of_z w64 c.args.top c.ranges.top in
    let ef = to_z-of_z w64 c.args.first c.ranges.first in
    let es = to_z-of_z w64 c.args.second c.ranges.second in
    record {
      whole = search rules;
      long = search rules;
      metrics = λ t b none. nothing_yet t none;
      chosen = λ t b none. nothing_yet t none;
      tops = rw (et, ef, es)
          (tops_first (λ t. metric_into forced c.args.column.now c.args.first c.args.second t -ℤ c.args.top)
          (metric_fits forced c.args.column.now c.args.top c.args.first c.args.second 0
          c.requires.column));
    }

pub greater-requires-clause-one_fit : goal.greater-requires-clause-one_fit
greater-requires-clause-one_fit g c =
    let lower = metrics_lanes (FORCED-type (number g.row.FORCED)) c.args.column.now c.args.top
    c.args.first c.args.second c.loop-k.k c.block_step-bits.result.0 c.block_step-bits.ensures.long
    c.requires.column c.ranges.top c.ranges.first c.ranges.second c.block_step-bits.ensures.metrics in
    rw lower.kept lower.fit

pub greater-requires-clause-other_fit : goal.greater-requires-clause-other_fit
greater-requires-clause-other_fit g c =
    let upper = metrics_lanes (FORCED-type (number g.row.FORCED)) c.args.column.now c.args.top
    c.args.first c.args.second (16 + c.loop-k.k) c.block_step-upper_bits.result.0
    c.block_step-upper_bits.ensures.long c.requires.column c.ranges.top c.ranges.first
    c.ranges.second c.block_step-upper_bits.ensures.metrics in
    rw upper.kept upper.fit

pub greater-most-requires-clause-other_fit : goal.greater-most-requires-clause-other_fit
greater-most-requires-clause-other_fit g c =
    rw (kept c.greater.result c.greater.ensures.fit)
    c.greater.ensures.fit

-- Two blocks of eight states more, one in the lower half and one in the upper, have their metrics
-- and choices: each lane has the definition's for its state, and the greatest metric of each lane
-- so far is kept.
pub loop-k-preserved : goal.loop-k-preserved
loop-k-preserved g c =
    let forced = FORCED-type (number g.row.FORCED) in
    let column = c.args.column.now in
    let top = c.args.top in
    let f = c.args.first in
    let s = c.args.second in
    let k = c.loop-k.k in
    let et = to_z-of_z w64 top c.ranges.top in
    let ef = to_z-of_z w64 f c.ranges.first in
    let es = to_z-of_z w64 s c.ranges.second in
    let lower = metrics_lanes forced column top f s k c.block_step-bits.result.0
    c.block_step-bits.ensures.long c.requires.column c.ranges.top c.ranges.first c.ranges.second
    c.block_step-bits.ensures.metrics in
    let upper = metrics_lanes forced column top f s (16 + k) c.block_step-upper_bits.result.0
    c.block_step-upper_bits.ensures.long c.requires.column c.ranges.top c.ranges.first
    c.ranges.second c.block_step-upper_bits.ensures.metrics in
    let low = c.block_step-bits.result in
    let high = c.block_step-upper_bits.result in
    let choices : (l : ℕ) → l < 8 → bit_of low.1 l ≡ choice_into forced column f s (8 * k + l) =
    rw (ef, es) at c.block_step-bits.ensures.choices in
    let upper_choices : (l : ℕ) → l < 8 →
    bit_of high.1 l ≡ choice_into forced column f s (8 * (16 + k) + l) =
    rw (ef, es) at c.block_step-upper_bits.ensures.choices in
    let inner = c.greater.result in
    let next = c.greater-most.result in
    let wings : AreGreater low.0 high.0 inner = rw (lower.kept, upper.kept) at c.greater.ensures in
    let all : AreGreater (map (to_z w64) c.loop-k.most) inner next =
    rw (kept inner c.greater.ensures.fit) at c.greater-most.ensures in
    record {
      whole = length-put_chunk (8 * (16 + k)) _ _ ∙ length-put_chunk (8 * k) c.loop-k.next _
          ∙ c.loop-k.invariant.whole;
      long = length-set _ (16 + k) _ ∙ length-set c.loop-k.choices k _ ∙ c.loop-k.invariant.long;
      metrics = rw (et, ef, es, lower.kept, upper.kept)
          (wings_more c.loop-k.next low.0 high.0 k (λ t. metric_into forced column f s t -ℤ top)
          c.loop-k.invariant.whole c.loop-k-test.true
          c.block_step-bits.ensures.long c.block_step-upper_bits.ensures.long
          (rw (et, ef, es) at c.loop-k.invariant.metrics) lower.each upper.each);
      chosen = rw (ef, es)
          (choices_more c.loop-k.choices low.1 high.1 k (choice_into forced column f s)
          c.loop-k.invariant.long c.loop-k-test.true
          (rw (ef, es) at c.loop-k.invariant.chosen) choices upper_choices);
      tops = rw (et, ef, es, kept next c.greater-most.ensures.fit)
          (tops_more (λ t. metric_into forced column f s t -ℤ top) k (map (to_z w64) c.loop-k.most)
          low.0 high.0 inner next c.loop-k-test.true
          (rw (et, ef, es) at c.loop-k.invariant.tops) wings all lower.each upper.each);
    }

-- After all sixteen pairs of blocks every state has its metric and its choice, and the greatest of
-- the eight lanes' greatest metrics is that of the column.
pub returns : goal.returns
returns g c =
    let forced = FORCED-type (number g.row.FORCED) in
    let column = c.args.column.now in
    let top = c.args.top in
    let f = c.args.first in
    let s = c.args.second in
    let et = to_z-of_z w64 top c.ranges.top in
    let ef = to_z-of_z w64 f c.ranges.first in
    let es = to_z-of_z w64 s c.ranges.second in
    let all : c.loop-k.k ≡ 16 = omega (arith, c.loop-k-test.false) in
    let tops : AreTops (λ t. metric_into forced column f s t -ℤ top) 16 (map (to_z w64) c.loop-k.most)
    = rw (et, ef, es, all) at c.loop-k.invariant.tops in
    let metrics : (t : ℕ) → t < 256 →
    get_or c.loop-k.next t (pos 0) ≡ metric_into forced column f s t -ℤ top =
    λ t b. (rw (et, ef, es) at c.loop-k.invariant.metrics) t b (rw all (omega arith)) in
    record {
      whole = c.loop-k.invariant.whole;
      metrics = metrics;
      choices = λ t b. (rw (ef, es) at c.loop-k.invariant.chosen) t b (rw all (omega arith));
      greatest = rw (to_z-of_z w64 c.greatest.result (record { sfits = c.greatest.type_inv }))
          (column_greatest (λ t. metric_into forced column f s t -ℤ top) (map (to_z w64) c.loop-k.most)
          c.loop-k.next c.greatest.result c.loop-k.invariant.whole tops c.greatest.ensures metrics);
    }

pub greater-requires-clause-one_long : goal.greater-requires-clause-one_long
greater-requires-clause-one_long g c = grind (ints, arith, common_steps)

pub greater-requires-clause-other_long : goal.greater-requires-clause-other_long
greater-requires-clause-other_long g c = grind (ints, arith, common_steps)

pub block_step-upper_bits-requires-clause-column : goal.block_step-upper_bits-requires-clause-column
block_step-upper_bits-requires-clause-column g c =
    rw (
      to_z-of_z w64 c.args.top c.ranges.top,
      to_z-of_z w64 c.args.first c.ranges.first,
      to_z-of_z w64 c.args.second c.ranges.second,
    ) c.requires.column

pub greater-most-requires-clause-other_long : goal.greater-most-requires-clause-other_long
greater-most-requires-clause-other_long g c = grind (ints, arith, common_steps)

pub block_step-bits-requires-clause-column : goal.block_step-bits-requires-clause-column
block_step-bits-requires-clause-column g c =
    rw (
      to_z-of_z w64 c.args.top c.ranges.top,
      to_z-of_z w64 c.args.first c.ranges.first,
      to_z-of_z w64 c.args.second c.ranges.second,
    ) c.requires.column
