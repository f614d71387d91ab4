use Rattle.list_viterbi.proofs.Common.{◌≡◌, ◌+◌, ◌*◌, ◌/◌, ◌<◌, ◌≤◌, ℕ, [], length, get_or, ◌∙◌, suc, rules, arith, add-one, pos, pair_kept}
use Rattle.list_viterbi.proofs.Common.{pair_small, HasPicks, picks_into}
use Rattle.list_viterbi.proofs.Rooms.{found_first, found_number, found_scores}
use Rattle.list_viterbi.proofs.Standing.{stands_first, column_stands, score_rooms}
use Rattle.list_viterbi.proofs.Found.{run_codewords}
use Rattle.list_viterbi.proofs.decoder.ListDecoder.list_into.Goals as goal

pub loop-bit-init : goal.loop-bit-init
loop-bit-init c = record {
  columns_whole = search rules;
  kept = c.self.view_is;
  few = c.start.ensures.k;
  stands = stands_first c.args.softs.now c.args.ends c.args.k c.start.new.self.scores
      c.self.inside.columns.items (omega (arith, c.requires.some)) c.start.ensures.scores;
}

pub step-requires-clause-fits : goal.step-requires-clause-fits
step-requires-clause-fits c = pair_small c.args.softs.now c.loop-bit.bit (omega (arith, c.loop-bit-test.true)) c.requires.softs.bound

-- There is room for one bit more: the column's scores are those of codewords of at most 576 bits,
-- and a score is at most the sum of the sizes of its soft values, which is bounded.
pub step-requires-clause-room : goal.step-requires-clause-room
step-requires-clause-room c =
    let softs = c.args.softs.now in
    let bit = c.loop-bit.bit in
    let kept = pair_kept softs bit (omega (arith, c.loop-bit-test.true)) c.requires.softs.bound in
    let few : bit ≤ 576 =
    omega (arith, c.loop-bit-test.true, c.requires.softs.most, c.self.view_is, c.self.invariant) in
    rw (kept.0, kept.1)
    (score_rooms softs c.args.ends c.args.k bit c.loop-bit.self-inside.column.scores
    c.loop-bit.self-inside.columns.items (omega (arith, c.loop-bit-test.true)) c.requires.softs.bound few
    c.loop-bit.invariant.stands)

-- The column stands for one bit more: the step was given the bit's own two soft values and the
-- column that stood for the bits before it, so each state has the definition's picks for this bit.
pub loop-bit-preserved : goal.loop-bit-preserved
loop-bit-preserved c =
    let softs = c.args.softs.now in
    let bit = c.loop-bit.bit in
    let column = c.loop-bit.self-inside.column.scores in
    let first = get_or softs (2 * bit) (pos 0) in
    let second = get_or softs (2 * bit + 1) (pos 0) in
    let room : 2 * bit + 2 ≤ length softs = omega (arith, c.loop-bit-test.true) in
    let pair = pair_kept softs bit room c.requires.softs.bound in
    let next : bit + 1 ≡ suc bit = add-one bit in
    let each : (t : ℕ) → t < 256 → HasPicks (get_or c.step.new.self.scores t [])
    (get_or c.step.new.choices t 0) (picks_into column first second c.args.k t) =
    λ t b. rw (pair.0, pair.1, c.loop-bit.invariant.few)
    at (c.step.ensures.each t b) in
    let few : bit < 576 =
    omega (arith, c.loop-bit-test.true, c.requires.softs.most, c.self.view_is, c.self.invariant) in
    let within : bit < length c.loop-bit.self-inside.columns.items = search rules in
    record {
      columns_whole = c.loop-bit.invariant.columns_whole;
      kept = c.loop-bit.invariant.kept;
      few = c.step.ensures.k ∙ c.loop-bit.invariant.few;
      stands = rw next
          (column_stands softs c.args.ends c.args.k bit column c.step.new.self.scores
          c.loop-bit.self-inside.columns.items c.step.new.choices room c.requires.few within
          c.loop-bit.invariant.stands each);
    }

pub returns : goal.returns
returns c =
    let softs = c.args.softs.now in
    let out = c.all_traced.result in
    let lists = run_codewords softs c.args.ends c.args.k _ c.loop-bit.bit _ _ _ _ _
    (omega (arith, c.loop-bit-test.false)) c.requires.softs.least
    (omega (arith, c.requires.softs.most, c.self.view_is, c.self.invariant))
    (c.deref.ensures.len ∙ c.loop-bit.invariant.columns_whole) c.deref.ensures.value
    c.loop-bit.invariant.stands c.loop-bit.invariant.few c.first_ends-finds.ensures
    c.all_traced.ensures in
    record {
      first = found_first softs _ c.args.k out lists;
      scores = found_scores softs _ c.args.k out lists;
      count = c.len.ensures.value;
      number = c.len.ensures.value ∙ found_number softs c.args.ends (length softs / 2) c.args.k out
          (omega (arith, c.requires.softs.least)) lists;
      kept = c.loop-bit.invariant.kept;
    }
