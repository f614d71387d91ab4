use Rattle.std.proofs.Common.{◌≡◌, ◌+◌, ◌^◌, take, unsigned_abs}
use Rattle.std.specs.List.{sum_by}
use Rattle.receiver_tests.proofs.decoder_timing_tests.is_bounded.Given as goal

abbrev pub invariant-loop-soft : goal.invariant-loop-soft
invariant-loop-soft l = l.left + sum_by unsigned_abs (take l.soft-index l.softs) ≡ 2 ^ 62
