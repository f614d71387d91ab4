use Rattle.frame_decoder.proofs.FormatChoice.{candidate_is, frame_is}
use Rattle.frame_decoder.proofs.choice.frame_of.Goals as goal

pub best_candidate-best-requires-clause-formats : goal.best_candidate-best-requires-clause-formats
best_candidate-best-requires-clause-formats g c = c.requires.formats

pub best_candidate-best-requires-clause-room : goal.best_candidate-best-requires-clause-room
best_candidate-best-requires-clause-room g c = c.requires.room

-- The frame that is chosen is the definition's: the soft values are those without power control
-- bits, the candidate of the highest rate is preferred to the best of the lower ones at a tie, and
-- where the best isn't good the highest rate's best codeword is told as a frame that isn't.
pub returns-clause-value : goal.returns-clause-value
returns-clause-value g c =
    let highest = c.args.highest.now in
    let kept = c.without_power_bits-kept in
    let best = c.best_candidate-best in
    let codeword = c.best_codeword-codeword in
    let found = candidate_is kept.result highest codeword.result.bits codeword.result.score
    c.candidate.result codeword.ensures.bits codeword.ensures.score c.candidate.ensures in
    frame_is highest c.args.lower.now c.args.places.now c.args.softs.now kept.result
    codeword.result.bits codeword.result.score best.result c.candidate.result c.preferred-best.result
    c.good_or.result kept.ensures.value best.ensures.value codeword.ensures.bits codeword.ensures.score found
    c.preferred-best.ensures c.good_or.ensures
