-- A sent frame is decoded.
use Rattle.rate_set_two.proofs.Common.{refl, R14400, shown_decoded, signs_decoded, format_of2, as_decoded2, lower_rates2, decoded2}
use Rattle.rate_set_two.proofs.Common.{IsDecodedBySigns2, IsSentFrameDecoded2}
use Rattle.rate_set_two.proofs.RateFormats.{among}

pub signs_frame : IsDecodedBySigns2
unfolding decoded2
signs_frame = signs_decoded format_of2 as_decoded2 R14400 lower_rates2 (λ r. refl) among

pub sent_frame : IsSentFrameDecoded2
sent_frame = shown_decoded format_of2 as_decoded2 decoded2 signs_frame
