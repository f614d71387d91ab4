use Rattle.cell_samples.proofs.Common.{common_steps, ◌≡◌, ℕ, ◌+◌, ◌/◌, Bool, List, ap, arith, Rate, half_frame_body, CellIdentity, Cycle}
use Rattle.cell_samples.proofs.Common.{page_cycle, cycle_is, frame_bits-is, ints}
use Rattle.cell_samples.proofs.page_cycle.PageCycle.new.Goals as goal

abbrev cycle_with : CellIdentity → ℕ → Rate → List Bool → Cycle
cycle_with cell mask rate bits = record { cell = cell; mask = mask; rate = rate; bits = bits }

-- The cycle is that of the channel's pages: half a frame of the rate is a half-frame with its SCI
-- bit, and the pages that are laid in half-frames and completed with zeros are the cycle by
-- definition.
pub returns : goal.returns
returns c =
    let rate = c.args.rate in
    let form = c.args.cell.now.check30 in
    let half : c.frame_bits.result / 2 ≡ half_frame_body rate + 1 =
    omega (arith, frame_bits-is rate c.frame_bits.result c.frame_bits.ensures) in
    let same : c.fill_up.new.bits ≡ page_cycle rate form c.args.pages.now =
    cycle_is rate form c.args.pages.now (c.frame_bits.result / 2) c.laid-bits.result
    c.fill_up.new.bits half c.laid-bits.ensures.value c.fill_up.ensures in
    ap (cycle_with c.args.cell.now c.args.mask rate) same

pub invariant_of-result : goal.invariant_of-result
invariant_of-result c = grind (ints, arith, common_steps)
