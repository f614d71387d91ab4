use Rattle.reception.proofs.Common.{◌≡◌, ◌++◌, take, drop, sum_by, unsigned_abs, descrambled}
use Rattle.reception.proofs.softs.unscramble.Given as goal

abbrev pub invariant-loop-i : goal.invariant-loop-i
invariant-loop-i l = record {
  value : l.softs ≡ descrambled (take l.i l.bits) (take l.i l.fn.softs) ++ drop l.i l.fn.softs;
  small : sum_by unsigned_abs l.softs ≡ sum_by unsigned_abs l.fn.softs;
}
