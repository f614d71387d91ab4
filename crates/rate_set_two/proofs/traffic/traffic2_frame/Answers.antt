use Rattle.rate_set_two.proofs.Common.{ap, ◌∙◌, ℤ, rules, as_decoded2, decoded2}
use Rattle.std.specs.Int.{w64}
use Rattle.std.proofs.lemmas.Int.{to_z-of_z}
use Rattle.frame_decoder.proofs.Chosen.{by_formats}
use Rattle.rate_set_two.proofs.traffic.traffic2_frame.Goals as goal

pub returns-clause-value : goal.returns-clause-value
unfolding decoded2
returns-clause-value c =
    let frame = c.frame_of-frame.result in
    ap (λ (z : ℤ). as_decoded2 (record frame { score = z })) (to_z-of_z w64 frame.score (search rules))
    ∙ ap as_decoded2
    (by_formats c.args.places.now c.args.softs.now _ _ _ _ _ _ _ _ frame c.format_of2.ensures.value
    c.format_of2-2.ensures.value c.format_of2-3.ensures.value c.format_of2-4.ensures.value
    c.frame_of-frame.ensures.value)
