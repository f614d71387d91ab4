use Rattle.cdma_io.proofs.Files.{read_next}
use Rattle.cdma_io.proofs.laws.file_is_read_in_order.Goals as goal

pub returns : goal.returns
returns c width samples next new small small_next fits read =
    read_next width new samples next small small_next fits read
