use Rattle.cell_script.proofs.Common.{List, ap, one_frame_more, TrafficFrame}
use Rattle.cell_script.proofs.LastChanged.{push_changed}
use Rattle.cell_script.proofs.build.add_frame.Goals as goal

pub returns : goal.returns
returns c =
    push_changed c.push-2.result (one_frame_more c.args.frame.now) c.args.traffic.now c.pop.new.self
    c.push-2.new.self c.in-Some.channel _ c.in-Some.ensures
    (ap (λ (frames : List TrafficFrame). record c.in-Some.channel { frames = frames })
    c.in_ok-push.ensures.ok)
    c.push-2.ensures.ok
