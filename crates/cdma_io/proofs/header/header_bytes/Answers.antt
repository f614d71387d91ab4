use Rattle.cdma_io.proofs.Common.{refl, header_spelling}
use Rattle.cdma_io.proofs.header.header_bytes.Goals as goal

pub returns : goal.returns
unfolding header_spelling
returns c =
    rw (
      c.write_u64.ensures,
      c.write_u16-2.ensures,
      c.write_u16.ensures,
      c.copy_from_slice.ensures.after,
      c.flags_for.ensures,
    ) refl
