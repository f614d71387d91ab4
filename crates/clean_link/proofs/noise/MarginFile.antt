-- The worked file with noise meets the premises of the laws of bounded noise.
use Rattle.clean_link.proofs.Common.{arith, inl, refl, Sixteen, length-sent, sync_shape, sync_carrier, carriers, sync_symbols, Sync}
use Rattle.clean_link.proofs.noise.FileAtMargin.{comes_back, file_is, hears, lawful_with}
use Rattle.clean_link.specs.MarginFile.{MeetsNoisePremises}
use Rattle.clean_link.specs.NoisyFile.{cell, sync_with}
use Rattle.clean_signal.proofs.noise.TakenAway.{exact}

pub meets_premises : MeetsNoisePremises
unfolding carriers sync_symbols
meets_premises = record {
  near = λ span least long. record {
    receivable = comes_back.receivable;
    near = comes_back.near;
    checks_of_30 = refl;
    checks_of_16 = refl;
    found = comes_back.found span least long;
    alone = refl;
  };
  hears = hears;
  exact = λ e.
      exact Sixteen cell (sync_carrier cell (sync_with 90)) Sync 32704 0 e comes_back.receivable
      (1, omega arith, refl) (inl refl) (omega arith)
      (record { room = omega arith; frame_long = refl; symbol_long = refl; begins = omega arith })
      (length-sent sync_shape 2 _);
  sent = file_is;
  sender = lawful_with 1 (omega arith) (omega arith);
}
