use Rattle.frame_decoder.proofs.Common.{◌≡◌, take, is_up}
use Rattle.frame_decoder.proofs.power.is_up.Given as goal

abbrev pub invariant-loop-sums : goal.invariant-loop-sums
invariant-loop-sums l = l.up ≡ is_up l.group (take l.sums-index l.heard)
