use Rattle.message_layout.proofs.Loops.{PlacesRead}
use Rattle.message_layout.proofs.reading.read_places.Given as goal

abbrev pub invariant-loop-i : goal.invariant-loop-i
invariant-loop-i l = PlacesRead l.size l.first l.width l._i l.bits l.place l.numbers
