use Rattle.pilot_search.proofs.Common.{subst, Option, IsFound, Best}
use Rattle.pilot_search.proofs.FoundLemmas.{best_found, is_some, whole}
use Rattle.pilot_search.proofs.searching.search.Goals as goal

pub unwrap-requires : goal.unwrap-requires
unwrap-requires g c =
    is_some c.args.samples.now c.run-best.result.0
    (whole c.args.samples.now c.args.workers c.run-best.result.0 c.requires.least
    c.run-best.ensures.found)

pub returns : goal.returns
returns g c =
    best_found c.args.samples.now c.unwrap.result
    (subst (λ (o : Option Best). IsFound c.args.samples.now 0 32768 o) c.unwrap.ensures
    (whole c.args.samples.now c.args.workers c.run-best.result.0 c.requires.least
    c.run-best.ensures.found))
