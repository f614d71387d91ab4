use Rattle.quality_bits.proofs.Streams.{under_way-more, ending-more}
use Rattle.quality_bits.proofs.laws.one_more_piece.Goals as goal

pub returns-clause-under_way : goal.returns-clause-under_way
returns-clause-under_way c = under_way-more

pub returns-clause-capsule : goal.returns-clause-capsule
returns-clause-capsule c = ending-more
