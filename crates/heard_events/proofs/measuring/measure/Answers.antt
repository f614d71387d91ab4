use Rattle.heard_events.proofs.Common.{common_steps, ints, ◌≡◌, ◌<◌, ◌≤◌, ◌++◌, ◌∷◌, [], arith, length-append, rules, unsigned_abs}
use Rattle.heard_events.proofs.Common.{Strength, pilot_strength, All-push}
use Rattle.heard_events.proofs.LegLists.{all_at, map_at}
use Rattle.heard_events.proofs.measuring.measure.Goals as goal

-- One pilot more is measured: its strength is put at the end of the list, its offset is below 512
-- as that of every pilot to be measured, and it was found at most 226 chips from where it is due.
pub loop-i-preserved : goal.loop-i-preserved
loop-i-preserved c =
    let had = c.loop-i.invariant in
    let one : Strength = c.pilot_strength-measured.result in
    let is = c.pilot_strength-measured.ensures in
    let p = c.get.result in
    let pilots = c.pilots-pilots.result in
    let more : c.push.new.self ≡ c.loop-i.strengths ++ one ∷ [] = search rules in
    let low = all_at (λ q. q < 512) pilots c.loop-i.i p c.pilots-pilots.ensures.offsets
    c.get.ensures in
    rw more (record {
      list = λ heard holds.
          map_at (pilot_strength c.args.mark.now heard c.args.place c.args.sets.now) pilots
          c.loop-i.i p c.loop-i.strengths one c.get.ensures (had.list heard holds)
          (is.value heard holds);
      long = omega (arith, length-append c.loop-i.strengths (one ∷ []), had.long);
      pilots = All-push (λ (s : Strength). s.pilot < 512) c.loop-i.strengths one had.pilots
          (omega (arith, is.pilot, low));
      close = All-push (λ (s : Strength). unsigned_abs s.delta ≤ 226) c.loop-i.strengths one
          had.close is.close;
    })

pub returns-clause-value : goal.returns-clause-value
returns-clause-value c = grind (ints, arith, common_steps)
