use Rattle.quality_bits.proofs.Common.{◌≡◌, ◌-◌, take, drop, continued, completed}
use Rattle.quality_bits.proofs.open_capsule.OpenCapsule.push_all.Given as goal

abbrev pub invariant-loop-i : goal.invariant-loop-i
invariant-loop-i l = record {
  goes_on : l.self ≡ continued l.fn.self (take (l.i - l.from) (drop l.from l.piece));
  gives : l.whole ≡ completed l.fn.self (take (l.i - l.from) (drop l.from l.piece));
}
