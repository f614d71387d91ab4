use Rattle.traffic_message.proofs.Common.{◌+◌, ◌==◌, Bool, List, take, sym, ap, ◌∙◌, number, dropped}
use Rattle.traffic_message.proofs.Frames.{set_there}
use Rattle.traffic_message.proofs.handoff.is_set.Goals as goal

pub returns-then-place-len : goal.returns-then-place-len
returns-then-place-len c =
    let bits = c.args.bits.now in
    sym (set_there bits (c.args.from + c.args.place) c.get.result c.get.ensures)
    ∙ ap (λ (r : List Bool). number (take 1 r) == 1) (sym (dropped c.args.place c.args.from bits))
