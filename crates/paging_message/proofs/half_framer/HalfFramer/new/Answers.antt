use Rattle.paging_message.proofs.Common.{◌∙◌}
use Rattle.paging_message.proofs.Cutting.{nothing_open, nothing_placed}
use Rattle.paging_message.proofs.half_framer.HalfFramer.new.Goals as goal

pub returns-clause-stands : goal.returns-clause-stands
returns-clause-stands c =
    record {
      placed = nothing_placed c.body_bits.result;
      under_way = c.closed.ensures
          ∙ nothing_open c.body_bits.result;
    }
