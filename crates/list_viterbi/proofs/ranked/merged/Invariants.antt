use Rattle.list_viterbi.proofs.Common.{◌≤◌, length}
use Rattle.list_viterbi.proofs.Walks.{IsPart}
use Rattle.list_viterbi.proofs.ranked.merged.Given as goal

abbrev pub invariant-loop-n : goal.invariant-loop-n
invariant-loop-n g l = record {
  first_place : l.i ≤ length l.first;
  second_place : l.j ≤ length l.second;
  few : length l.taken ≤ l._n;
  part : IsPart g.T.Scored.score l.k l.first l.second l.i l.j l._n l.taken;
}
