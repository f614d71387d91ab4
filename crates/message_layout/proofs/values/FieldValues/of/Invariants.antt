use Rattle.message_layout.proofs.Common.{◌≡◌, take}
use Rattle.message_layout.proofs.values.FieldValues.of.Given as goal

abbrev pub invariant-loop-i : goal.invariant-loop-i
invariant-loop-i l = l.all ≡ take l.i l.values
