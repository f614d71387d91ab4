-- Soft values of 0 give no good frame.
use Rattle.rate_set_two.proofs.Common.{map, R14400, nothing_decoded, format_of2, as_decoded2, lower_rates2, decoded2, IsNothingGood2}

pub nothing_good : IsNothingGood2
unfolding decoded2
nothing_good replaced = nothing_decoded as_decoded2 (format_of2 R14400) (map format_of2 lower_rates2) 384 replaced
