use Rattle.walsh.proofs.Stages.{IsPartway}
use Rattle.walsh.proofs.transform.stage.Given as goal

abbrev pub invariant-loop-low : goal.invariant-loop-low
invariant-loop-low l = IsPartway l.bit l.low l.fn.values l.values
