use Rattle.listed_frame.proofs.Common.{ap, ◌∙◌, candidate_of, codewords_in}
use Rattle.listed_frame.proofs.Candidates.{candidate_is}
use Rattle.listed_frame.proofs.frame.candidate_of.Goals as goal

pub returns-clause-value : goal.returns-clause-value
returns-clause-value c =
    let softs = c.args.softs.now in
    c.candidate.ensures
    ∙ candidate_is c.args.k softs c.format_of-format.result c.codewords_in-codewords.result
    c.codewords_in-codewords.ensures.codewords c.codewords_in-codewords.ensures.scores
    ∙ ap (λ format. candidate_of softs format (codewords_in c.args.k softs format)) c.format_of-format.ensures.value
