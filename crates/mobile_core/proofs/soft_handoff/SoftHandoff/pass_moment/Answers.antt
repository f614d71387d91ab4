use Rattle.mobile_core.proofs.Common.{common_steps, ints, ◌∙◌, ◌++◌, ◌+◌, ◌*◌, [], sym, ap, arith, event_list, traffic_left_of, Mark}
use Rattle.mobile_core.proofs.Common.{SetsKeeper, SoftHandoff, sets_events, passed as passed_of}
use Rattle.mobile_core.proofs.MomentPassed.{hears_passed}
use Rattle.mobile_core.proofs.SoundFrames.{passed_close}
use Rattle.mobile_core.proofs.soft_handoff.SoftHandoff.pass_moment.Goals as goal

-- A moment at which nothing else is due is told next: the sets and the event are the definition's
-- for the samples heard, and the receiver's fingers are set to the pilots that the moment leaves
-- active.
pub returns-clause-hears : goal.returns-clause-hears
returns-clause-hears c = λ t traffic m heard holds st.
    let r = c.args.self.now in
    let passed = c.pass-event.ensures in
    let passes = passed.passes heard holds in
    let tuned = c.tune.ensures in
    let k = c.pass-event.new.self in
    let event = c.pass-event.result in
    let mark = st.tuned.mark_is in
    let waits = c.requires.waits.before in
    let here = sym holds.taken ∙ c.requires.waits.due c.requires.due ∙ ap (λ (x : Mark). x.sample + 98304 * (r.sets.passed + 1)) mark in
    let on = hears_passed st c.requires.sound c.requires.idle c.requires.empty
    (omega (arith, holds.taken, waits)) here k passed.same
    (passes.0 ∙ ap (λ (x : Mark). passed_of x heard (r.sets.passed + 1) r.sets.sets) mark)
    (passed_close st.tuned c.requires.sound.receiver k (ap (λ (x : SetsKeeper). x.mark) passed.same ∙ mark)
    tuned.some tuned.close) event
    (passes.1 ∙ ap (λ (x : Mark). sets_events x heard (r.sets.passed + 1) r.sets.sets) mark) in (
      tuned.hears t traffic m heard [] on.0,
      ap (λ (x : SoftHandoff). event_list event ++ traffic_left_of t traffic m heard x) tuned.same ∙ on.1,
    )

pub returns-clause-waits : goal.returns-clause-waits
returns-clause-waits c = grind (ints, arith, common_steps)

pub tune-requires : goal.tune-requires
tune-requires c = grind (ints, arith, common_steps)
