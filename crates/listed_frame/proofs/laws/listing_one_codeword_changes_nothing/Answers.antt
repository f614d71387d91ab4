use Rattle.listed_frame.proofs.Choice.{decoded_by_one_codeword}
use Rattle.listed_frame.proofs.laws.listing_one_codeword_changes_nothing.Goals as goal

pub returns : goal.returns
returns c = decoded_by_one_codeword
