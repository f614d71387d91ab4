use Rattle.sync_message.proofs.Common.{arith, inl, inr}
use Rattle.sync_message.proofs.Bodies.{length-body, length-tail}
use Rattle.sync_message.proofs.laws.octets_tell_the_rest.Goals as goal

pub returns-clause-least : goal.returns-clause-least
returns-clause-least c m is =
    elim (length-tail m is) [
      | inl short ↦ omega (arith, is.fills.whole, length-body m, short.2)
      | inr long ↦ omega (arith, is.fills.whole, length-body m, long.1)
    ]

pub returns-clause-shortest : goal.returns-clause-shortest
returns-clause-shortest c m is count =
    elim (length-tail m is) [
      | inl short ↦ (short.0, short.1)
      | inr long ↦ absurd (omega (arith, count, is.fills.whole, length-body m, long.1))
    ]

pub returns-clause-longer : goal.returns-clause-longer
returns-clause-longer c m is count =
    elim (length-tail m is) [
      | inl short ↦ absurd (omega (arith, count, is.fills.whole, length-body m, short.2))
      | inr long ↦ (long.0, omega (arith, count, is.fills.whole, length-body m, long.1))
    ]
