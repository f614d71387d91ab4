use Rattle.mobile_core.proofs.Common.{arith, common_steps, ints, ◌∙◌, [], ◌∷◌, event_list, noted_by, beside}
use Rattle.mobile_core.proofs.FramesFollowed.{tells_first}
use Rattle.mobile_core.proofs.FramesTold.{hears_noted}
use Rattle.mobile_core.proofs.soft_handoff.SoftHandoffReceive.hear_next.Goals as goal

-- The event of a frame or of its message is the first that the traffic channel had left, and the
-- pilot sets take what it tells, which ends at the samples taken so far.
pub returns-clause-hears : goal.returns-clause-hears
returns-clause-hears c = λ t _ mark heard holds check count following.
    let event = c.hear_told-event.result in
    let sets = c.args.self.now.sets in
    let told = c.hear_told-event.ensures in
    let at' = c.taken.ensures.value ∙ holds.taken in
    let next = told.hears t following.traffic following.set sets heard at' check c.requires.sound following.hears in
    rw c.note.ensures.value
    (tells_first following (noted_by event (beside sets c.hear_told-event.new.self)) (event ∷ []) []
    (hears_noted event next.0 (told.ends ∙ at'), next.1))

pub returns-then-not-has_told-clause-hears : goal.returns-then-not-has_told-clause-hears
returns-then-not-has_told-clause-hears c = λ t _ mark heard holds check count following.
    let on = c.pass_moment.ensures.hears t following.traffic following.set heard holds following.hears in
    tells_first following c.pass_moment.new.self (event_list c.pass_moment.result) [] on

pub returns-clause-nearer : goal.returns-clause-nearer
returns-clause-nearer c = grind (ints, arith, common_steps)

pub returns-then-not-has_told-clause-waits : goal.returns-then-not-has_told-clause-waits
returns-then-not-has_told-clause-waits c = grind (ints, arith, common_steps)

pub returns-clause-further : goal.returns-clause-further
returns-clause-further c = grind (ints, arith, common_steps)

pub returns-clause-sound : goal.returns-clause-sound
returns-clause-sound c = grind (ints, arith, common_steps)

pub note-requires : goal.note-requires
note-requires c = grind (ints, arith, common_steps)

pub returns-clause-waits : goal.returns-clause-waits
returns-clause-waits c = grind (ints, arith, common_steps)
