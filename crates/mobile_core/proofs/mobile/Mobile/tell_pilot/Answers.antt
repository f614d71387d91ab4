use Rattle.mobile_core.proofs.Common.{common_steps, ints, ◌≡◌, ◌++◌, ◌∷◌, [], Option, Some, ap, arith, length, refl, subst, sym, Best, ℕ}
use Rattle.mobile_core.proofs.Common.{pilot_left, Stands, Event, Pilot}
use Rattle.mobile_core.proofs.Stood.{stands_told}
use Rattle.mobile_core.proofs.mobile.Mobile.tell_pilot.Goals as goal

-- The pilot is told first: as long as it hasn't been told no other event has been given, and its
-- event has the phase and the energy that the search found, after which it isn't told again.
pub returns-clause-steps : goal.returns-clause-steps
returns-clause-steps c =
    let m = c.args.self.now in
    let best = c.in_ok-best.best in
    let is : m.pilot ≡ Some best = sym c.in_ok-best.ensures.value in
    let gone = c.take.ensures.after in
    let count : Option Best → ℕ = λ pilot. length (pilot_left pilot) in
    let event : Event = Pilot best.phase best.energy in
    rw c.pilot_event.ensures (record {
      room = refl;
      more = omega (arith, ap count is, ap count gone);
      told = λ t heard given st. (
        sym (st.early best is),
        subst (λ p. Stands t m.count m.check p m.ring m.sync m.followed heard (given ++ event ∷ []))
            (sym gone) (stands_told st best is),
      );
    })

pub returns-in_err-best-clause-steps : goal.returns-in_err-best-clause-steps
returns-in_err-best-clause-steps c = grind (ints, arith, common_steps)

pub returns-clause-nearer : goal.returns-clause-nearer
returns-clause-nearer c = grind (ints, arith, common_steps)
