use Rattle.rake_finger.proofs.Common.{◌≡◌, ◌≤◌, ◌*◌, ◌^◌, take, sample_power}
use Rattle.rake_finger.proofs.moments.power_of.Given as goal

abbrev pub invariant-loop-sample : goal.invariant-loop-sample
invariant-loop-sample l = record {
  value : l.power ≡ sample_power (take l.sample-index l.samples);
  most : l.power ≤ 2 ^ 31 * l.sample-index;
}
