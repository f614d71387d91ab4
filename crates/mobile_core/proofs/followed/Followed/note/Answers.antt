use Rattle.mobile_core.proofs.Common.{◌≡◌, ◌∙◌, ◌∷◌, ◌++◌, Some, IfSome, rules, length, subst, sym, at_of, event_list, HearsFrames, WaitsAt}
use Rattle.mobile_core.proofs.Common.{Event, IsSoundHandoff, SetsKeeper, SoftHandoff, ap, noted_by, IsSoundKeeper, beside}
use Rattle.mobile_core.proofs.FramesFollowed.{frames_noted, noted_waits}
use Rattle.mobile_core.proofs.followed.Followed.note.Goals as goal

-- the receiver together with the sets that have taken the event
noted : (r x : SoftHandoff) (event : Event) (k : SetsKeeper) → k ≡ (noted_by event r).sets →
    Some (beside k r.receiver) ≡ Some x → noted_by event r ≡ x
noted r x event k value e =
    let same : beside k r.receiver ≡ x = cc in ap (λ (k : SetsKeeper). beside k r.receiver) (sym value) ∙ same

pub note-requires : goal.note-requires
note-requires c = (c.requires c.in-Some-traffic.handoff (search rules)).keeper

pub returns-in-Some-traffic-clause-sound : goal.returns-in-Some-traffic-clause-sound
returns-in-Some-traffic-clause-sound c = λ x e.
    let r = c.in-Some-traffic.handoff in
    let is = c.requires r (search rules) in
    let value = c.note.ensures.value in
    subst IsSoundHandoff (noted r x c.in-Some.event c.note.new.self value e)
    (record { receiver = is.receiver; keeper = subst IsSoundKeeper value c.note.ensures.sound; begun = is.begun })

pub returns-in-Some-traffic-clause-waits : goal.returns-in-Some-traffic-clause-waits
returns-in-Some-traffic-clause-waits c = λ n before x e.
    let r = c.in-Some-traffic.handoff in
    subst (WaitsAt n) (noted r x c.in-Some.event c.note.new.self c.note.ensures.value e)
    (noted_waits n r c.in-Some.event (before r (search rules)))

-- The traffic channel stands for what it heard with the paging channel's event noted: its pilot
-- sets take what the event tells, which ends at the samples taken so far.
pub returns-in-Some-traffic-clause-hears : goal.returns-in-Some-traffic-clause-hears
returns-in-Some-traffic-clause-hears c = λ t assigned mark heard pages ends st.
    let r = c.in-Some-traffic.handoff in
    let is : c.args.traffic.now ≡ Some r = search rules in
    let told : c.args.event.now ≡ Some c.in-Some.event = search rules in
    let here = subst (λ e. IfSome e (λ event. at_of event ≡ length heard)) told ends in
    let following = subst (λ o. HearsFrames t assigned mark o heard (c.in-Some.event ∷ pages)) is
    (subst (λ e. HearsFrames t assigned mark c.args.traffic.now heard (event_list e ++ pages)) told st) in
    rw (is, c.note.ensures.value) (frames_noted c.in-Some.event following here)
