use Rattle.cdma_io.proofs.Opening.{opening-spelled}
use Rattle.cdma_io.proofs.laws.spelled_header_opens.Goals as goal

pub returns : goal.returns
returns c = opening-spelled
