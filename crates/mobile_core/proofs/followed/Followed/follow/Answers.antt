use Rattle.mobile_core.proofs.Common.{common_steps, ints, ◌≡◌, ◌∙◌, rules, Some, sym, arith}
use Rattle.mobile_core.proofs.ChannelsFollowed.{opened, unassigned}
use Rattle.mobile_core.proofs.FramesFollowed.{frames_opened}
use Rattle.mobile_core.proofs.PagesFollowed.{pages_opened}
use Rattle.mobile_core.proofs.followed.Followed.follow.Goals as goal

-- From its mark on a handset without a traffic channel hears the paging channel: its receiver was
-- opened before any frame after the mark could have ended, and there is no other channel to open.
pub returns-in_default-assigned-clause-hears : goal.returns-in_default-assigned-clause-hears
returns-in_default-assigned-clause-hears c = λ t before heard taken within sets st.
    let m = c.in-Some.mark in
    let f = c.args.self.now in
    let set : c.args.mark.now ≡ Some m = search rules in
    let opens = c.opens.ensures.0 (search rules) in
    let paging = c.open-self.ensures in
    let early = opens.0 in
    let pages = pages_opened t heard m f.channel st.channel_is (omega (arith, taken, early))
    c.open-self.result paging.some paging.begins paging.fresh
    (paging.hears t heard (sym st.phase_is) (sym st.deltas_are) (omega (arith, taken, within))
    (omega (arith, taken, early))) in
    rw set
    (opened st c.open-self.result f.traffic m opens.1.0 opens.1.1 pages (unassigned st m opens.1.1 (search rules)))

-- From its mark on a handset with a traffic channel hears both channels: each receiver was opened
-- on the handset's own phase and paths, before any frame after the mark could have ended.
pub returns-clause-hears : goal.returns-clause-hears
returns-clause-hears c = λ t before heard taken within sets st.
    let m = c.in-Some.mark in
    let f = c.args.self.now in
    let traffic = c.in-Some-assigned.traffic in
    let set : c.args.mark.now ≡ Some m = search rules in
    let channel : f.assigned ≡ Some traffic = search rules in
    let opens = c.opens.ensures.0 (search rules) in
    let paging = c.open-self.ensures in
    let receiver = c.open-handoff.ensures in
    let early = opens.0 in
    let pages = pages_opened t heard m f.channel st.channel_is (omega (arith, taken, early))
    c.open-self.result paging.some paging.begins paging.fresh
    (paging.hears t heard (sym st.phase_is) (sym st.deltas_are) (omega (arith, taken, within))
    (omega (arith, taken, early))) in
    let begins = receiver.begins in
    let frames = frames_opened t t.traffic heard traffic m c.open-handoff.result
    (sym st.assigned_is ∙ channel) receiver.sound receiver.idle (omega (arith, taken, early, begins))
    (receiver.hears t heard (sym st.phase_is) (sym st.deltas_are) (omega (arith, taken, within))
    (omega (arith, taken, early))) in
    rw set (opened st c.open-self.result (Some c.open-handoff.result) m opens.1.0 opens.1.1 pages frames)

pub returns-clause-due : goal.returns-clause-due
returns-clause-due c = grind (ints, arith, common_steps)

pub returns-clause-further : goal.returns-clause-further
returns-clause-further c = grind (ints, arith, common_steps)

pub returns-then-not-opens-clause-hears : goal.returns-then-not-opens-clause-hears
returns-then-not-opens-clause-hears c = grind (ints, arith, common_steps)

pub returns-in_default-assigned-clause-sound : goal.returns-in_default-assigned-clause-sound
returns-in_default-assigned-clause-sound c = grind (ints, arith, common_steps)

pub returns-clause-sound : goal.returns-clause-sound
returns-clause-sound c = grind (ints, arith, common_steps)
