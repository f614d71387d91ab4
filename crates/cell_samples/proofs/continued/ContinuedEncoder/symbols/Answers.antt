use Rattle.cell_samples.proofs.Common.{◌≡◌, ℕ, ap, ◌∙◌, sent, shape_of, Kind, FrameSource, symbol_kind_of, repeats_in, scrambled_by}
use Rattle.cell_samples.proofs.SentFrames.{symbols_are}
use Rattle.cell_samples.proofs.continued.ContinuedEncoder.symbols.Goals as goal

-- The symbols are the definition's for this frame: coding leaves the source of the frames as it
-- was, so repetition, interleaving and scrambling are those of the same source.
pub returns-clause-value : goal.returns-clause-value
returns-clause-value c =
    let source = c.args.self.now in
    let code = c.code-code in
    let same : c.self.inside.source ≡ source = c.self.view_is ∙ code.ensures.same in
    let placed : c.place_into.new.out
    ≡ sent (shape_of (symbol_kind_of source)) (repeats_in source) code.result =
    c.place_into.ensures.value
    ∙ ap (λ (k : Kind). sent (shape_of k) c.repeats.result code.result) (c.kind.ensures ∙ ap symbol_kind_of same)
    ∙ ap (λ (n : ℕ). sent (shape_of (symbol_kind_of source)) n code.result) (c.repeats.ensures ∙ ap repeats_in same) in
    symbols_are source c.args.frame code.result c.scrambled.result code.ensures.value
    (c.scrambled.ensures.value
    ∙ ap (λ (s : FrameSource). scrambled_by s c.args.frame c.place_into.new.out) same
    ∙ ap (scrambled_by source c.args.frame) placed)
