use Rattle.symbol_path.proofs.SentOnceTwo.{kept_once, dropped}
use Rattle.rate_set_two.proofs.laws.third_and_fifth_are_dropped.Goals as goal

pub returns-clause-kept : goal.returns-clause-kept
returns-clause-kept c = kept_once

pub returns-clause-dropped : goal.returns-clause-dropped
returns-clause-dropped c = dropped
