use Rattle.rake_finger.proofs.Common.{IsStrongest}
use Rattle.rake_finger.proofs.strengths.strongest.Given as goal

abbrev pub invariant-loop-place : goal.invariant-loop-place
invariant-loop-place l = IsStrongest l.samples l.lowest l.place l.best l.most
