use Rattle.cdma_io.proofs.Uniqueness.{file_unique}
use Rattle.cdma_io.proofs.laws.file_is_unique.Goals as goal

pub returns : goal.returns
returns c = file_unique
