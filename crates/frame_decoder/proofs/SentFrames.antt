-- A sent frame of a traffic channel is decoded.
use Rattle.frame_decoder.proofs.Common.{[], ◌∷◌, ◌++◌, refl, Rate, R9600, R4800, R2400, R1200, format_of, as_decoded, lower_rates, decoded}
use Rattle.frame_decoder.proofs.Common.{IsSentFrameDecoded, IsDecodedBySigns}
use Rattle.frame_decoder.proofs.FormatChoice.{IsAmong}
use Rattle.frame_decoder.proofs.SentFormats.{shown_decoded, signs_decoded}

pub among : (rate : Rate) → IsAmong rate (lower_rates ++ R9600 ∷ [])
among R9600 = record { before = R1200 ∷ R2400 ∷ R4800 ∷ []; after = []; parted = refl }
among R4800 = record { before = R1200 ∷ R2400 ∷ []; after = R9600 ∷ []; parted = refl }
among R2400 = record { before = R1200 ∷ []; after = R4800 ∷ R9600 ∷ []; parted = refl }
among R1200 = record { before = []; after = R2400 ∷ R4800 ∷ R9600 ∷ []; parted = refl }

pub signs_frame : IsDecodedBySigns
unfolding decoded
signs_frame = signs_decoded format_of as_decoded R9600 lower_rates (λ r. refl) among

pub sent_frame : IsSentFrameDecoded
sent_frame = shown_decoded format_of as_decoded decoded signs_frame
