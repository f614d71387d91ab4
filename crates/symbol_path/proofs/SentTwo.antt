-- How many symbols of rate set 2 are sent, and which.
use Rattle.symbol_path.proofs.Common.{◌≡◌, Bool, List, length, Rate2, place2, sent2}
use Rattle.symbol_path.proofs.Agreement.{length-sent_by}

pub length-sent2 : (rate : Rate2) (code : List Bool) → length (sent2 rate code) ≡ 384
length-sent2 rate code = length-sent_by (place2 rate) 384 code
