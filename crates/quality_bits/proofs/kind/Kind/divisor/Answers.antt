use Rattle.quality_bits.proofs.Common.{places}
use Rattle.quality_bits.proofs.kind.Kind.divisor.Goals.{in-Q6, in-Q8, in-Q10, in-Q12, in-M16, in-M30}
use Rattle.quality_bits.proofs.kind.Kind.divisor.Goals as goal

pub returns-clause-below : goal.returns-clause-below
unfolding places
returns-clause-below c =
    elim c.match-self.branch [
      | in-Q6 w ↦ rw (w.degree-is, w.in-Q6.is)
      | in-Q8 w ↦ rw (w.degree-is, w.in-Q8.is)
      | in-Q10 w ↦ rw (w.degree-is, w.in-Q10.is)
      | in-Q12 w ↦ rw (w.degree-is, w.in-Q12.is)
      | in-M16 w ↦ rw (w.degree-is, w.in-M16.is)
      | in-M30 w ↦ rw (w.degree-is, w.in-M30.is)
    ]
