use Rattle.walsh.proofs.Carried.{IsCarried}
use Rattle.walsh.proofs.transform.transform64.Given as goal

abbrev pub invariant-loop-bit : goal.invariant-loop-bit
invariant-loop-bit l = IsCarried l.bit l.fn.values l.values
