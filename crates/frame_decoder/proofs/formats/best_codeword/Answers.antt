use Rattle.frame_decoder.proofs.Common.{◌≡◌, ◌≤◌, ap, ◌∙◌, length, rules, List, ℤ, FitsSigned, w64, to_z-of_z, Codeword, score_of, Zero}
use Rattle.frame_decoder.proofs.Common.{IsBestCodeword, spelled_codeword, gathered_in, codeword_in}
use Rattle.frame_decoder.proofs.Unreplaced.{first_zeros_read}
use Rattle.frame_decoder.proofs.FormatCodewords.{best_is, gathered_score, length-codeword_in}
use Rattle.frame_decoder.proofs.formats.best_codeword.Goals as goal

pub gather_frame_into-requires-clause-zeros : goal.gather_frame_into-requires-clause-zeros
gather_frame_into-requires-clause-zeros g c =
    let few : c.code_symbols.result ≤ 576 = c.code_symbols.ensures.most in
    λ k. first_zeros_read c.code_symbols.result 576 k few

-- The bits are those of the format's best codeword: the decoder's codeword has the best score over
-- the gathered soft values, and this is the best one over the values as they were sent.
pub returns-clause-bits : goal.returns-clause-bits
returns-clause-bits g c =
    let softs = c.args.softs.now in
    let format = c.args.format.now in
    let codeword : Codeword = spelled_codeword c.best_into-score.new.out in
    let long : length softs ≡ 384 = search rules in
    let best : IsBestCodeword (gathered_in format softs) Zero codeword =
    rw (← c.gather_frame_into.ensures.value) c.best_into-score.ensures.best in
    ap (λ (w : Codeword). w.bits) (best_is softs format codeword c.requires.format long best)

-- The score that is returned is that of the frame's best codeword: the decoder's codeword is the
-- best for the gathered values, and the sum over gathered values is the sum over the soft values as
-- they were sent.
pub returns-clause-score : goal.returns-clause-score
returns-clause-score g c =
    let softs = c.args.softs.now in
    let format = c.args.format.now in
    let codeword : Codeword = spelled_codeword c.best_into-score.new.out in
    let values = gathered_in format softs in
    let long : length softs ≡ 384 = search rules in
    let best : IsBestCodeword values Zero codeword =
    rw (← c.gather_frame_into.ensures.value) c.best_into-score.ensures.best in
    let is : codeword ≡ codeword_in softs format = best_is softs format codeword c.requires.format long best in
    let fits : FitsSigned w64 c.best_into-score.result = search rules in
    to_z-of_z w64 c.best_into-score.result fits
    ∙ c.best_into-score.ensures.score
    ∙ ap (λ (xs : List ℤ). score_of xs codeword) c.gather_frame_into.ensures.value
    ∙ ap (score_of values) is
    ∙ gathered_score softs format (codeword_in softs format) c.requires.format long (length-codeword_in softs format)

pub returns-clause-count : goal.returns-clause-count
returns-clause-count g c = ap length (returns-clause-bits g c) ∙ length-codeword_in c.args.softs.now c.args.format.now
