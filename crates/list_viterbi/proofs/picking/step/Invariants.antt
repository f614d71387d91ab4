use Rattle.list_viterbi.proofs.Common.{◌≡◌, ◌<◌, ℕ, [], length, get_or, HasPicks, picks_into}
use Rattle.list_viterbi.proofs.picking.step.Given as goal

abbrev pub invariant-loop-state : goal.invariant-loop-state
invariant-loop-state l = record {
  whole : length l.next ≡ 256;
  whole_choices : length l.choices ≡ 256;
  each : (t : ℕ) → t < l.state → HasPicks (get_or l.next t []) (get_or l.choices t 0)
      (picks_into l.column l.first l.second l.k t);
}
