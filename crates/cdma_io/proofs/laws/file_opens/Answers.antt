use Rattle.cdma_io.proofs.Files.{opens_file}
use Rattle.cdma_io.proofs.laws.file_opens.Goals as goal

pub returns : goal.returns
returns c bytes header samples answer file due = opens_file answer bytes header samples file due
