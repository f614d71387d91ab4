use Rattle.heard_events.proofs.Common.{◌≡◌, ℕ, ◌∷◌, [], ◌∙◌, sym, ap, arith, length, length-append, map, take, subst, List, slice_get, ◌≤◌}
use Rattle.heard_events.proofs.Common.{◌<◌, All, legs_close, legs_rows, places_in, take_all, Active, leg_of, Leg, shown}
use Rattle.heard_events.proofs.ActiveLegs.{active_close, active_offset, active_rows, places_few}
use Rattle.heard_events.proofs.LegLists.{map_at}
use Rattle.heard_events.proofs.sets_keeper.SetsKeeper.legs.Goals as goal

-- what was made of the first of some pilots was made of all, where there are no more
all_of : (f : Active → Leg) (i : ℕ) (legs : List Leg) (some all : List Active) →
    legs ≡ map f (take i some) → some ≡ all → length some ≤ i → legs ≡ map f all
all_of f i legs some all made same few = made ∙ ap (map f) (take_all i some few ∙ same)

pub leg-requires-clause-pilot : goal.leg-requires-clause-pilot
leg-requires-clause-pilot c =
    let active = c.active-active.ensures in
    active_offset c.args.self.now.sets.sets active.apart.sets c.loop-i.i c.get.result
    (ap (λ (actives : List Active). slice_get actives c.loop-i.i) (sym active.value) ∙ c.get.ensures)

pub loop-i-preserved : goal.loop-i-preserved
loop-i-preserved c =
    let had = c.loop-i.invariant in
    let k = c.args.self.now in
    let more = c.push.ensures in (
      more
          ∙ map_at (leg_of k.mark k.sets.deltas) c.active-active.result c.loop-i.i c.get.result
          c.loop-i.legs c.leg.result c.get.ensures had.0 c.leg.ensures,
      omega (arith, ap length more, length-append c.loop-i.legs (c.leg.result ∷ []), had.1),
    )

-- The active pilots have eight places at most: the reference's pilot is heard over up to three
-- paths and each of the others at one place, at most six are active, and none is listed twice.
pub returns-clause-few : goal.returns-clause-few
returns-clause-few c =
    let k = c.args.self.now in
    let active = c.active-active.ensures in
    let same = all_of (leg_of k.mark k.sets.deltas) c.loop-i.i _ _ _ c.loop-i.invariant.0 active.value
    (omega (arith, c.loop-i-test.false, c.len-i-end.ensures.value)) in
    subst (λ (legs : List Leg). places_in legs ≤ 8) (sym same)
    (places_few k.mark k.sets active.apart
    (omega (arith, ap length active.value, c.len-i-end.ensures.value, c.len-i-end.ensures.most)))

pub returns-clause-close : goal.returns-clause-close
returns-clause-close c =
    let k = c.args.self.now in
    let active = c.active-active.ensures in
    let same = all_of (leg_of k.mark k.sets.deltas) c.loop-i.i _ _ _ c.loop-i.invariant.0 active.value
    (omega (arith, c.loop-i-test.false, c.len-i-end.ensures.value)) in
    ap legs_close same ∙ active_close k.mark k.sets.deltas (shown k.sets) c.requires.close

pub returns-clause-rows : goal.returns-clause-rows
returns-clause-rows c =
    let k = c.args.self.now in
    let active = c.active-active.ensures in
    let same = all_of (leg_of k.mark k.sets.deltas) c.loop-i.i _ _ _ c.loop-i.invariant.0 active.value
    (omega (arith, c.loop-i-test.false, c.len-i-end.ensures.value)) in
    ap legs_rows same
    ∙ active_rows k.mark k.sets.deltas (shown k.sets)
    (subst (λ (actives : List Active). All (λ (a : Active). a.row < 64) actives) active.value
    active.rows)
