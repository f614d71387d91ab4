use Rattle.cdma_io.proofs.Common.{drop}
use Rattle.cdma_io.proofs.ByteNumbers.{AreBytes-from_all}
use Rattle.cdma_io.proofs.Opening.{opening-ok}
use Rattle.cdma_io.proofs.laws.opened_header_is_spelled.Goals as goal

pub returns : goal.returns
returns c bytes header all due =
    let opened = opening-ok bytes header (AreBytes-from_all bytes all) due in
    (opened.lawful, (drop 16 bytes, opened.spelled))
