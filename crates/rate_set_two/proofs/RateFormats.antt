-- The rates of rate set 2 among one another.
use Rattle.rate_set_two.proofs.Common.{[], ◌∷◌, ◌++◌, refl, R14400, R7200, R3600, R1800, lower_rates2}
use Rattle.symbol_path.specs.declared.rate_two.Rate2.{Rate2}
use Rattle.frame_decoder.proofs.FormatChoice.{IsAmong}

pub among : (rate : Rate2) → IsAmong rate (lower_rates2 ++ R14400 ∷ [])
among R14400 = record { before = R1800 ∷ R3600 ∷ R7200 ∷ []; after = []; parted = refl }
among R7200 = record { before = R1800 ∷ R3600 ∷ []; after = R14400 ∷ []; parted = refl }
among R3600 = record { before = R1800 ∷ []; after = R7200 ∷ R14400 ∷ []; parted = refl }
among R1800 = record { before = []; after = R3600 ∷ R7200 ∷ R14400 ∷ []; parted = refl }
