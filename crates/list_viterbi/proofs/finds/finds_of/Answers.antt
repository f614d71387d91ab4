use Rattle.list_viterbi.proofs.Common.{◌∷◌, ◌++◌, [], ap, ◌∙◌, rules, arith, ℤ, w64, to_z-of_z, SFits}
use Rattle.list_viterbi.proofs.Found.{finds_count, finds_more}
use Rattle.list_viterbi.proofs.finds.finds_of.Goals as goal

pub push-requires : goal.push-requires
push-requires c =
    let size = finds_count c.args.state c.args.scores.now c.loop-rank.rank c.loop-rank.finds
    c.loop-rank.invariant in
    omega (arith, size, c.loop-rank-test.true, c.len-rank-end.ensures.most)

pub loop-rank-preserved : goal.loop-rank-preserved
loop-rank-preserved c =
    let fits : SFits w64 c.get.result.now = search rules in
    c.push.ensures
    ∙ ap
    (λ (s : ℤ).
    c.loop-rank.finds ++ record { score = s; state = c.args.state; rank = c.loop-rank.rank } ∷ [])
    (to_z-of_z w64 c.get.result.now fits)
    ∙ finds_more c.args.state c.args.scores.now c.loop-rank.rank c.get.result.now c.loop-rank.finds
    (omega (arith, c.loop-rank-test.true, c.len-rank-end.ensures.value)) c.get.ensures.value
    c.loop-rank.invariant
