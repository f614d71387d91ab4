use Rattle.heard_events.proofs.Common.{◌≤◌, ◌+◌, ◌∙◌, ℤ, List, All, ap, sym, arith, subst, unsigned_abs, Standing, SetChange, changed, ◌≡◌}
use Rattle.heard_events.proofs.Common.{false≢true, refl, moment_events, passed}
use Rattle.heard_events.proofs.ActiveLegs.{deltas_close, due_deltas}
use Rattle.heard_events.proofs.sets_keeper.SetsKeeper.pass.Goals as goal

-- A moment leaves the pilot sets and tells the event of the definition: the strengths and the power
-- are those of the samples heard, at the moment's own place, and the sets before it are those that
-- directions due by then have left.
pub returns-clause-passes : goal.returns-clause-passes
unfolding passed changed
returns-clause-passes c = λ heard holds.
    let k = c.args.self.now in
    let j = k.passed + 1 in
    let place = c.taken-place.ensures.value ∙ c.requires.here in
    let began = c.due.ensures.sets in
    let strengths = c.measure-strengths.ensures.value heard holds in
    let power = c.power.ensures.value heard holds in
    let step = c.step-change.ensures in
    let sets : c.step-change.new.self ≡ passed k.mark heard j k.sets =
    rw (step.sets, strengths, power, began, place) refl in
    let change : c.step-change.result ≡ changed k.mark heard j k.sets =
    rw (step.change, strengths, power, began, place) refl in (
      sets,
      c.sets_event.ensures.value
          ∙ ap (λ (x : SetChange). moment_events k.mark j x c.step-change.new.self) change
          ∙ ap (moment_events k.mark j (changed k.mark heard j k.sets)) sets,
    )

-- The pilot sets stay sound after a moment has passed: each pilot was measured within half a search
-- window, the moment that was due lay within the longest file, so one more may be counted, and none
-- is due now.
pub returns-clause-sound : goal.returns-clause-sound
returns-clause-sound c =
    let is = c.requires.sound in
    let k = c.args.self.now in
    let early = is.early c.requires.due in
    let step = c.step-change.ensures.sets in
    let before = subst (λ (ds : List ℤ). All (λ d. unsigned_abs d ≤ 226) ds)
    (sym (ap (λ (s : Standing). s.deltas) c.due.ensures.sets ∙ due_deltas _ k.sets)) is.close in
    record {
      marked = is.marked;
      close = subst (λ (ds : List ℤ). All (λ d. unsigned_abs d ≤ 226) ds) (sym (ap (λ (s : Standing). s.deltas) step))
          (deltas_close c.measure-strengths.result c.due.new.self.deltas
          c.measure-strengths.ensures.close before);
      few = omega (arith, early);
      early = λ due. absurd (false≢true due);
    }
