use Rattle.pilot_survey.proofs.Common.{rules, arith, Rank}
use Rattle.std.proofs.lemmas.List.Sorted.{answers_always}
use Rattle.pilot_survey.proofs.Orders.{neighbours}
use Rattle.pilot_survey.proofs.ranking.Survey.of.Goals as goal

pub returns-clause-order : goal.returns-clause-order
returns-clause-order c = λ k d lt.
    neighbours _ _ _ _
    (c.sort_unstable_by_key.ensures.sorted (λ (r : Rank). (record { 0 = r.energy }, r.pilot))
    (answers_always _ _ _ (λ f a r g h. search rules)) k d (omega arith) lt)
