use Rattle.trial_link.proofs.Common.{length, ap, arith, length-append, binary, length-binary}
use Rattle.trial_link.proofs.trial.other_frame.Goals as goal

pub sixteen-requires : goal.sixteen-requires
sixteen-requires c =
    omega (
      arith,
      ap length c.append_number-2.ensures,
      length-append c.empty-power_bits.result (binary 16 0x5555),
      length-binary 16 0x5555,
      ap length c.empty-power_bits.ensures,
    )
