use Rattle.cdma_io.proofs.Files.{no_short}
use Rattle.cdma_io.proofs.laws.file_is_not_short.Goals as goal

pub returns : goal.returns
returns c = no_short
