use Rattle.rake_finger.proofs.Adding.{IsSummed}
use Rattle.rake_finger.proofs.combining.combine_into.Given as goal

abbrev pub invariant-loop-i : goal.invariant-loop-i
invariant-loop-i l = IsSummed l.ring l.fingers l.form l.start l.i l.out
