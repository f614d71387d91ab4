use Rattle.frame_decoder.proofs.Common.{◌<◌, ◌∙◌, ap, ℕ, length, not, false, arith, take, length-set, map-places-all, summed_subchannels}
use Rattle.frame_decoder.proofs.Common.{is_up, power_bit}
use Rattle.frame_decoder.proofs.PowerSums.{set_more}
use Rattle.frame_decoder.proofs.power.commands.Goals as goal

-- One power control group more has its bit: it is set where the sums of this group don't say that
-- power is to go up, and the bits of the groups before stay.
pub loop-group-preserved : goal.loop-group-preserved
loop-group-preserved c =
    let p = c.args.softs.now in
    let g = c.loop-group.group in
    let had = c.loop-group.invariant in
    let room : g < length c.loop-group.bits = omega (arith, had.long, c.loop-group-test.true) in
    record {
      long = length-set c.loop-group.bits g _ ∙ had.long;
      each = set_more (power_bit (summed_subchannels p)) c.loop-group.bits g _ false room
          (ap not c.is_up.ensures
          ∙ ap (λ (n : ℕ). not (is_up g (take n p.sums))) c.from.ensures)
          had.each;
    }

pub returns : goal.returns
returns c =
    let had = c.loop-group.invariant in
    map-places-all (power_bit (summed_subchannels c.args.softs.now)) c.loop-group.bits 16 false had.long
    (λ k lt. had.each k (omega (arith, lt)))
