use Rattle.reception.proofs.Common.{◌≡◌, take, true, all_begun}
use Rattle.reception.proofs.fingers.are_begun.Given as goal

abbrev pub invariant-loop-finger : goal.invariant-loop-finger
invariant-loop-finger l = all_begun l.start (take l.finger-index l.finger-items) ≡ true
