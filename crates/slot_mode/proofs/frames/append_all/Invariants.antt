use Rattle.std.proofs.Common.{◌≡◌, ◌++◌, take}
use Rattle.slot_mode.proofs.frames.append_all.Given as goal

abbrev pub invariant-loop-i : goal.invariant-loop-i
invariant-loop-i l = l.out ≡ l.fn.out ++ take l.i l.bits
