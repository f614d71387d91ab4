use Rattle.list_viterbi.proofs.Common.{common_steps, sym, arith, rules, w64, to_z-of_z, SFits, ints}
use Rattle.list_viterbi.proofs.Walks.{second_only, second_by_score}
use Rattle.list_viterbi.proofs.ranked.takes_second.Goals as goal

pub returns-then-i-len : goal.returns-then-i-len
returns-then-i-len g c =
    sym (second_only g.T.Scored.score c.args.first.now c.args.second.now c.args.i c.args.j (omega arith) (omega arith))

-- Where both lists have a thing left, the second one's comes next just where its score is greater:
-- at a tie the first one's goes first.
pub returns : goal.returns
returns g c =
    let fits : SFits w64 c.score.result = search rules in
    let fits' : SFits w64 c.score-2.result = search rules in
    rw (to_z-of_z w64 c.score.result fits, to_z-of_z w64 c.score-2.result fits', c.score.ensures, c.score-2.ensures)
    (sym (second_by_score g.T.Scored.score c.args.first.now c.args.second.now c.args.i c.args.j _ _
    (omega arith) (omega arith) c.get.ensures.value c.get-2.ensures.value))

pub returns-then-j-len : goal.returns-then-j-len
returns-then-j-len g c = grind (ints, arith, common_steps)
