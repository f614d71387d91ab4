use Rattle.listed_frame.proofs.Common.{rules}
use Rattle.frame_decoder.proofs.Unreplaced.{first_zeros_read}
use Rattle.listed_frame.proofs.FirstCodewords.{are_found, found_bits, found_scores, found_codewords}
use Rattle.listed_frame.proofs.frame.codewords_in.Goals as goal

pub gather_frame_into-requires-clause-zeros : goal.gather_frame_into-requires-clause-zeros
gather_frame_into-requires-clause-zeros c =
    λ k. first_zeros_read c.code_symbols.result 576 k c.code_symbols.ensures.most

pub returns-clause-codewords : goal.returns-clause-codewords
returns-clause-codewords c = found_codewords c.args.k c.args.softs.now c.args.format.now _ c.requires.format (search rules)
    (are_found _ _ _ _ _ c.gather_frame_into.ensures.value c.list_into.ensures.first c.list_into.ensures.scores)

pub returns-clause-scores : goal.returns-clause-scores
returns-clause-scores c = found_scores c.args.k c.args.softs.now c.args.format.now _ c.requires.format (search rules)
    (are_found _ _ _ _ _ c.gather_frame_into.ensures.value c.list_into.ensures.first c.list_into.ensures.scores)

pub returns-clause-sizes : goal.returns-clause-sizes
returns-clause-sizes c = found_bits c.args.k c.args.softs.now c.args.format.now _
    (are_found _ _ _ _ _ c.gather_frame_into.ensures.value c.list_into.ensures.first c.list_into.ensures.scores)
