use Rattle.heard_events.proofs.Common.{◌≡◌, ◌<◌, ◌≤◌, List, length, map, take, All, unsigned_abs, Sample, Strength, HoldsLast}
use Rattle.heard_events.proofs.Common.{pilot_strength}
use Rattle.heard_events.proofs.measuring.measure.Given as goal

abbrev pub invariant-loop-i : goal.invariant-loop-i
invariant-loop-i l = record {
  list : (heard : List Sample) → HoldsLast l.ring heard →
      l.strengths ≡ map (pilot_strength l.mark heard l.place l.sets) (take l.i l.pilots);
  long : length l.strengths ≡ l.i;
  pilots : All (λ (s : Strength). s.pilot < 512) l.strengths;
  close : All (λ (s : Strength). unsigned_abs s.delta ≤ 226) l.strengths;
}
