use Rattle.listed_frame.proofs.Common.{elements, common_steps, ints, ◌<◌, Some, sym, ap, ◌∙◌, arith, length, rules, FitsSigned, w64}
use Rattle.listed_frame.proofs.Common.{to_z-of_z, is_right, frame_in}
use Rattle.std.specs.Option.{option_map}
use Rattle.chip_core.proofs.Finds.{found_here, found_later}
use Rattle.listed_frame.proofs.frame.candidate.Goals as goal

-- The codeword that was found is the candidate: it is the first of the list with a right quality
-- indicator, since none before it had one, and its score is the one that it was listed with.
pub returns-then-is_right : goal.returns-then-is_right
returns-then-is_right c =
    let format = c.args.format.now in
    let codewords = c.args.codewords.now in
    let within : c.loop-i.i < length codewords = omega (arith, c.loop-i-test.true, c.len-i-end.ensures.value) in
    let score = c.get-entry.result.now.score in
    let fits : FitsSigned w64 score = search rules in
    ap Some c.frame_in.ensures
    ∙ ap (λ z. Some (frame_in format c.get-entry.result.now.word.bits z)) (to_z-of_z w64 score fits)
    ∙ sym
    (ap (option_map (λ e. frame_in format e.word.bits e.score))
    (found_here (λ e. is_right format e.word.bits) codewords c.loop-i.i c.get-entry.result.now within
    c.get-entry.ensures.value c.loop-i.invariant (sym c.is_right.ensures ∙ c.if-is_right.true)))

pub loop-i-preserved : goal.loop-i-preserved
loop-i-preserved c =
    let format = c.args.format.now in
    let codewords = c.args.codewords.now in
    let within : c.loop-i.i < length codewords = omega (arith, c.loop-i-test.true, c.len-i-end.ensures.value) in
    found_later (λ e. is_right format e.word.bits) codewords c.loop-i.i c.get-entry.result.now within
    c.get-entry.ensures.value c.loop-i.invariant (sym c.is_right.ensures ∙ c.if-is_right.false)

pub returns : goal.returns
returns c = grind (ints, arith, common_steps)

pub frame_in-requires : goal.frame_in-requires
frame_in-requires c = grind (ints, arith, elements)

pub is_right-requires-clause-count : goal.is_right-requires-clause-count
is_right-requires-clause-count c = grind (ints, arith, elements)
