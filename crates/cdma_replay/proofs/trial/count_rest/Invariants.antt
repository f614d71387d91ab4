use Rattle.cdma_replay.proofs.Common.{◌≡◌, ◌-◌, ◌+◌, length, take, made_samples, events, StandsFor, has_room, steps_left, Tuning, counts_of}
use Rattle.cdma_replay.proofs.Common.{LeavesRoom}
use Rattle.cdma_replay.proofs.trial.count_rest.Given as goal

abbrev pub invariant-loop-cell : goal.invariant-loop-cell
invariant-loop-cell l = record {
  plan : l.cell.plan ≡ l.fn.cell.plan;
  room : has_room l.mobile + l.cell.given ≡ l.cell.plan.link.samples;
  few : LeavesRoom l.counts (steps_left l.mobile);
  piece : length l.piece ≡ length l.fn.piece;
  told : (t : Tuning) →
      let all = made_samples l.fn.cell.plan in
      let before = take l.fn.cell.given all in
      StandsFor t l.fn.mobile before (events t before) → l.fn.counts ≡ counts_of (events t before) →
      let now = take l.cell.given all in
      StandsFor t l.mobile now (events t now) × (l.counts ≡ counts_of (events t now));
}

abbrev pub decreases-loop-cell : goal.decreases-loop-cell
decreases-loop-cell l = l.cell.plan.link.samples - l.cell.given
