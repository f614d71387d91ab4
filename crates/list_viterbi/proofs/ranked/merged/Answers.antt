use Rattle.list_viterbi.proofs.Common.{common_steps, ◌≡◌, ◌<◌, ◌≤◌, ◌∷◌, [], true, false, drop, length, sym, arith, length-append, ints}
use Rattle.list_viterbi.proofs.Common.{second_is_next}
use Rattle.list_viterbi.proofs.Walks.{second_has, took_second, took_first, took_none, all_taken}
use Rattle.list_viterbi.proofs.ranked.merged.Goals.{then-takes_second, else-takes_second+then-i-len, else-takes_second+else-i-len}
use Rattle.list_viterbi.proofs.ranked.merged.Goals as goal

-- One step more takes the next of both ranked lists: the second one's head if it comes next,
-- otherwise the first one's, and nothing is taken if the first one has also ended.
pub loop-n-preserved : goal.loop-n-preserved
loop-n-preserved g c =
    let score = g.T.Scored.score in
    let xs = c.args.first.now in
    let ys = c.args.second.now in
    let before = c.loop-n.taken in
    let h = c.loop-n.invariant in
    let few = h.few in
    elim c.if-takes_second.branch [
      | then-takes_second w ↦
          let next : second_is_next score (drop c.loop-n.i xs) (drop c.loop-n.j ys) ≡ true =
          sym w.if-takes_second.ensures in
          let within = second_has score xs ys c.loop-n.i c.loop-n.j h.second_place next in
          let long = length-append before (w.get.result.now ∷ []) in
          rw (w.taken-is, w.i-is, w.j-is, w.push.ensures) (record {
            first_place = h.first_place;
            second_place = omega (arith, within);
            few = omega (arith, long, few);
            part = took_second score c.args.k c.loop-n.i c.loop-n.j c.loop-n._n xs ys before
                w.get.result.now within w.get.ensures.value next h.part;
          })
      | else-takes_second+then-i-len w ↦
          let next : second_is_next score (drop c.loop-n.i xs) (drop c.loop-n.j ys) ≡ false =
          sym w.if-takes_second.ensures in
          let within : c.loop-n.i < length xs = omega (arith, w.if-i-len.true, w.len.ensures.value) in
          let long = length-append before (w.get-then-i-len.result.now ∷ []) in
          rw (w.taken-is, w.i-is, w.j-is, w.push-then-i-len.ensures) (record {
            first_place = omega (arith, within);
            second_place = h.second_place;
            few = omega (arith, long, few);
            part = took_first score c.args.k c.loop-n.i c.loop-n.j c.loop-n._n xs ys before
                w.get-then-i-len.result.now within w.get-then-i-len.ensures.value next h.part;
          })
      | else-takes_second+else-i-len w ↦
          let next : second_is_next score (drop c.loop-n.i xs) (drop c.loop-n.j ys) ≡ false =
          sym w.if-takes_second.ensures in
          let over : length xs ≤ c.loop-n.i = omega (arith, w.if-i-len.false, w.len.ensures.value) in
          rw (w.taken-is, w.i-is, w.j-is) (record {
            first_place = h.first_place;
            second_place = h.second_place;
            few = omega (arith, few);
            part = took_none score c.args.k c.loop-n.i c.loop-n.j c.loop-n._n xs ys before over
                next h.part;
          })
    ]

pub returns : goal.returns
returns g c =
    all_taken g.T.Scored.score c.args.k c.loop-n.i c.loop-n.j c.loop-n._n c.args.first.now
    c.args.second.now
    c.loop-n.taken (omega arith) c.loop-n.invariant.part

pub get-requires : goal.get-requires
get-requires g c = grind (ints, arith, common_steps)
