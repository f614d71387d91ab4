-- Soft values of 0 give no good frame.
use Rattle.frame_decoder.proofs.Common.{R9600, format_of, as_decoded, lower_formats, decoded, IsNothingGood}
use Rattle.frame_decoder.proofs.SentFormats.{nothing_decoded}

pub nothing_good : IsNothingGood
unfolding decoded
nothing_good replaced = nothing_decoded as_decoded (format_of R9600) lower_formats 384 replaced
