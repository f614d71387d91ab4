use Rattle.list_viterbi.proofs.Common.{◌≡◌, ◌-◌, ◌<◌, ◌≤◌, ◌^◌, length, picks_from}
use Rattle.list_viterbi.proofs.Picks.{IsPicked}
use Rattle.list_viterbi.proofs.picking.picked_of_full.Given as goal

abbrev pub invariant-loop-n : goal.invariant-loop-n
invariant-loop-n l = record {
  before : l.j ≤ l.n;
  many : length l.scores ≡ l.n;
  power : l.weight ≡ 2 ^ length l.scores;
  weight_most : l.weight ≤ 65536;
  small : l.choices < l.weight;
  picked : IsPicked l.k (picks_from 0 l.even_gain 0 l.even) (picks_from 1 l.odd_gain 0 l.odd)
      (l.n - l.j) l.j l.n l.scores l.choices;
}
