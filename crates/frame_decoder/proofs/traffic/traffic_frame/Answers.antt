use Rattle.frame_decoder.proofs.Common.{ap, ◌∙◌, as_decoded, decoded}
use Rattle.frame_decoder.proofs.Chosen.{by_formats}
use Rattle.frame_decoder.proofs.traffic.traffic_frame.Goals as goal

pub returns-clause-value : goal.returns-clause-value
unfolding decoded
returns-clause-value c =
    c.of_frame.ensures
    ∙ ap as_decoded
    (by_formats c.args.places.now c.args.softs.now _ _ _ _ _ _ _ _ _ c.format_of.ensures.value
    c.format_of-2.ensures.value c.format_of-3.ensures.value c.format_of-highest.ensures.value
    c.frame_of.ensures.value)
