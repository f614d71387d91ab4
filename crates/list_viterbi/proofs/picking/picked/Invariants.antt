use Rattle.list_viterbi.proofs.Common.{◌≡◌, ◌<◌, ◌≤◌, ◌^◌, length, picks_from}
use Rattle.list_viterbi.proofs.Picks.{IsPicked}
use Rattle.list_viterbi.proofs.picking.picked.Given as goal

abbrev pub invariant-loop-n : goal.invariant-loop-n
invariant-loop-n l = record {
  even_place : l.i ≤ length l.even;
  odd_place : l.j ≤ length l.odd;
  few : length l.scores ≤ l._n;
  power : l.weight ≡ 2 ^ length l.scores;
  weight_most : l.weight ≤ 65536;
  small : l.choices < l.weight;
  picked : IsPicked l.k (picks_from 0 l.even_gain 0 l.even) (picks_from 1 l.odd_gain 0 l.odd)
      l.i l.j l._n l.scores l.choices;
}
