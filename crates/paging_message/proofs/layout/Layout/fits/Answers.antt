use Rattle.paging_message.proofs.Common.{◌≡◌, length, ◌∙◌, arith, leb-true, le-leb, bits_left}
use Rattle.paging_message.proofs.Layings.{left_is, same_left}
use Rattle.paging_message.proofs.layout.Layout.fits.Goals as goal

-- The answer is yes just where eight bits of the half-frame under way are left: what the place
-- leaves is what the length of the laid bits leaves.
pub returns : goal.returns
returns c l bits laid =
    let size = c.args.self.now.size in
    let lawful = c.left.ensures.lawful in
    let left : c.left.result ≡ bits_left size (length l.body) =
    c.left.ensures.value
    ∙ left_is c.args.self.now l bits (omega (arith, lawful.least)) lawful.within laid
    ∙ same_left size (length l.body) in (
      λ told. omega (arith, left, leb-true 8 c.left.result told),
      λ room. le-leb 8 c.left.result (omega (arith, left, room)),
    )
