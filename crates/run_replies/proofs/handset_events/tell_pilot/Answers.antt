use Rattle.run_replies.proofs.Common.{◌≡◌, None, Some, arith, rules, on_err}
use Rattle.run_replies.proofs.Handsets.{on_ok_both, pilot_begins, pilot_part, pilot_there}
use Rattle.run_replies.proofs.handset_events.tell_pilot.Goals as goal

pub returns-in_default-clause-room : goal.returns-in_default-clause-room
returns-in_default-clause-room g c =
    let steps = c.step-step.ensures.steps in
    omega (arith, steps.most, steps.room)

pub returns-in_default-clause-ok : goal.returns-in_default-clause-ok
returns-in_default-clause-ok g c t stands =
    let nothing : c.step-step.result.event ≡ None = search rules in
    absurd (pilot_there t c.args.mobile.now c.step-step.new.self c.step-step.result
    c.step-step.ensures stands nothing)

pub returns-clause-room : goal.returns-clause-room
returns-clause-room g c =
    let steps = c.step-step.ensures.steps in
    omega (arith, steps.most, steps.room)

-- Clause `ok` holds where the step gave an event: this is the pilot, which is all that is heard
-- before any sample, and the taps promise to write its text and to have heard it.
pub returns-clause-ok : goal.returns-clause-ok
returns-clause-ok g c =
    let event = c.in-Some.event in
    let gave : c.step-step.result.event ≡ Some event = search rules in
    let told = rw gave at c.tell.ensures.ok in
    let following = rw gave at c.tell.ensures.following in
    on_ok_both c.tell.result _ _ _
    (λ written next t stands.
    let begun =
    pilot_begins t c.args.mobile.now c.step-step.new.self c.step-step.result event
    c.step-step.ensures gave stands (g.T.KeepsTaps.kept c.args.taps.now)
    (g.T.KeepsTaps.kept c.tell.new.self) (g.K.Sink.written c.args.sink.now)
    (g.K.Sink.written c.tell.new.sink) written next in
    record { written = begun.0; gives = begun.1 })
    told following

pub returns-clause-err : goal.returns-clause-err
returns-clause-err g c =
    let event = c.in-Some.event in
    let gave : c.step-step.result.event ≡ Some event = search rules in
    let begins = rw gave at c.tell.ensures.err in
    on_err c.tell.result _ _
    (λ part t samples stands. pilot_part t c.args.mobile.now c.step-step.new.self
    c.step-step.result event c.step-step.ensures gave stands (g.T.KeepsTaps.kept c.args.taps.now)
    samples (g.K.Sink.written c.args.sink.now) (g.K.Sink.written c.tell.new.sink) part)
    begins
