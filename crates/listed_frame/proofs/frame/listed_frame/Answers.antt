use Rattle.listed_frame.proofs.Common.{common_steps, ints, arith, rules, FitsSigned, ◌∙◌, w64, to_z-of_z}
use Rattle.listed_frame.proofs.Candidates.{first_bits}
use Rattle.listed_frame.proofs.Choice.{decoded_by}
use Rattle.listed_frame.proofs.frame.listed_frame.Goals as goal

pub good_or-requires : goal.good_or-requires
good_or-requires c =
    first_bits c.format_of-format.result c.codewords_in-codewords.result c.get-first.result.now
    c.codewords_in-codewords.ensures.sizes c.get-first.ensures.value

-- The frame is the definition's, since each part of it is: the codewords that are listed for 9600
-- bps, the candidates of all four rates, the choice among them, and the first codeword, which is
-- told where no candidate is good.
pub returns-clause-value : goal.returns-clause-value
returns-clause-value c =
    let kept = c.without_power_bits-kept in
    let codewords = c.codewords_in-codewords in
    let first = c.get-first.result.now in
    let own : FitsSigned w64 first.score = search rules in
    c.of_frame.ensures
    ∙ decoded_by c.args.k c.args.places.now c.args.softs.now kept.result c.format_of-format.result
    codewords.result first c.candidate_of-best.result c.candidate_of.result c.candidate_of-2.result
    c.candidate.result c.preferred-best.result c.preferred-best-2.result c.preferred-best-3.result
    c.good_or.result _ (omega (arith, c.requires.some)) kept.ensures.value c.format_of-format.ensures.value
    codewords.ensures.codewords codewords.ensures.scores c.get-first.ensures.value
    c.candidate_of-best.ensures.value c.candidate_of.ensures.value c.candidate_of-2.ensures.value
    c.candidate.ensures c.preferred-best.ensures c.preferred-best-2.ensures
    c.preferred-best-3.ensures (to_z-of_z w64 first.score own) c.good_or.ensures

pub candidate-requires-clause-sizes : goal.candidate-requires-clause-sizes
candidate-requires-clause-sizes c = grind (ints, arith, common_steps)
