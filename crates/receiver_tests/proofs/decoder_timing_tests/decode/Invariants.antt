use Rattle.std.proofs.Common.{◌≡◌}
use Rattle.receiver_tests.proofs.decoder_timing_tests.decode.Given as goal

abbrev pub invariant-loop-turn : goal.invariant-loop-turn
invariant-loop-turn g l = l.decoder ≡ 576
