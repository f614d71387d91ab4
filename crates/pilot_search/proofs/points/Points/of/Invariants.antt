use Rattle.pilot_search.proofs.Common.{◌≡◌, map, take, across, both}
use Rattle.pilot_search.proofs.points.Points.of.Given as goal

abbrev pub invariant-loop-signs : goal.invariant-loop-signs
invariant-loop-signs l = record {
  straight : map both l.straight.items ≡ take l.signs-index l.signs-items;
  turned : map both l.turned.items ≡ map across (take l.signs-index l.signs-items);
}
