use Rattle.symbol_path.proofs.Common.{◌≡◌, ◌*◌, after, before, power_place}
use Rattle.symbol_path.proofs.PowerPlaces.{ArePairs}
use Rattle.symbol_path.proofs.scramble.power_places.Given as goal

abbrev pub invariant-loop-group : goal.invariant-loop-group
invariant-loop-group l = record {
  group : l.before ≡ after (before l.fn.state 1536) (1536 * l.group);
  pairs : ArePairs (power_place l.fn.state l.fn.mask) l.places l.group;
}
