-- Soft values agree with what is sent as their sums agree with the code symbols.
use Rattle.rate_set_two.proofs.Common.{KeepsAgreement}
use Rattle.symbol_path.proofs.Agreement.{agreement-gathered_by}
use Rattle.symbol_path.proofs.SentOnceTwo.{place2_lt}
use Rattle.symbol_path.specs.RatesTwo.{symbols_of}
use Rattle.symbol_path.specs.SentOrderTwo.{place2}

pub keeps_agreement : KeepsAgreement
keeps_agreement rate softs code p q =
    agreement-gathered_by (place2 rate) 384 (symbols_of rate) softs code p q (place2_lt rate)
