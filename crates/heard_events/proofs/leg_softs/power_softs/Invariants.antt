use Rattle.heard_events.proofs.Common.{◌≡◌, ◌≤◌, List, map, take, Sample, HoldsLast, sums_on, summed_subchannels}
use Rattle.heard_events.proofs.LegSubsets.{first_subchannels}
use Rattle.heard_events.proofs.leg_softs.power_softs.Given as goal

abbrev pub invariant-loop-subchannel : goal.invariant-loop-subchannel
invariant-loop-subchannel l = record {
  sums : (heard : List Sample) → HoldsLast l.ring heard → summed_subchannels l.sums
      ≡ map (sums_on heard l.phase (take l.near.count l.near.deltas) l.legs l.start l.replaced)
      (first_subchannels l.legs l.subchannel);
  few : l.sums.count ≤ l.subchannel;
}
