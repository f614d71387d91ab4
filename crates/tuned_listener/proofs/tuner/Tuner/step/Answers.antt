use Rattle.tuned_listener.proofs.Common.{ints, common_steps, ◌≡◌, ◌∙◌, ℕ, ◌-◌, ◌++◌, ◌∷◌, [], List, append-nil, ap, arith, length, refl}
use Rattle.tuned_listener.proofs.Common.{length-take, subst, sym, take, take_all, HasGiven, IsTunedTo, soft_frames, CodeChannel, Mark}
use Rattle.tuned_listener.proofs.Common.{Sample}
use Rattle.tuned_listener.proofs.Common.{ChannelReceiver, SoftFrame, Tuning, none-some}
use Rattle.tuned_listener.proofs.FramesGiven.{step_frame, step_none}
use Rattle.tuned_listener.proofs.tuner.Tuner.step.Goals as goal

-- Where the samples end before the frame under way does, all of them are taken and no frame is
-- given: no frame of the channel ends within them, so those that were given are still all there
-- are.
pub returns-then-samples-left : goal.returns-then-samples-left
returns-then-samples-left c =
    let r = c.args.self.now in
    let more = c.args.samples.now in
    let room = c.requires in
    let within = r.sound.within in
    let waits = r.sound.waits in
    let pushed = c.push_all.ensures.taken in
    let few = c.if-samples-left.true in
    let end = c.end.ensures in
    let at' = c.taken.ensures.value in
    let whole = take_all (length more) more (omega arith) in
    let step = λ (t : Tuning) (channel : CodeChannel) (m : Mark) (heard : List Sample) (st : IsTunedTo t channel m r heard).
    step_none heard more st.given r.sound.receives.given
    (omega (arith, st.ring.taken, st.count_is, room, within)) (omega (arith, st.ring.taken, waits))
    (omega (arith, st.ring.taken, few, end, at')) in
    record {
      most = omega arith;
      some = λ h. h;
      all = λ e. refl;
      left = omega (arith, room, within, pushed);
      ends = tt;
      small = tt;
      stands = λ t channel m heard st. rw whole (record {
        count_is = st.count_is;
        ring = c.push_all.ensures.holds heard st.ring;
        given = (step t channel m heard st).0;
      });
      gives = λ t channel m heard st.
          rw (whole, append-nil (soft_frames t channel m heard)) (step t channel m heard st).1;
    }

-- Where the frame under way ends within the samples, those up to its end are taken and it is given:
-- it is the channel's next frame, with the soft values of the samples in the ring, so what was
-- given is what the definition lists, with this frame at its end.
pub returns : goal.returns
returns c =
    let r = c.args.self.now in
    let n : ℕ = c.end.result - c.taken.result in
    let more = take n c.args.samples.now in
    let room = c.requires in
    let within = r.sound.within in
    let waits = r.sound.waits in
    let pushed = c.push_all-2.ensures.taken in
    let few = c.if-samples-left.false in
    let end = c.end.ensures in
    let at' = c.taken.ensures.value in
    let long : length more ≡ n = omega (arith, length-take n c.args.samples.now, few) in
    let frame = c.take_frame in
    let step = λ (t : Tuning) (channel : CodeChannel) (m : Mark) (heard : List Sample) (st : IsTunedTo t channel m r heard).
    step_frame heard more st.given r.sound.receives.given
    (omega (arith, st.ring.taken, st.count_is, room, within, long, few))
    (omega (arith, st.ring.taken, waits)) (omega (arith, st.ring.taken, long, end, at', waits)) in
    record {
      most = omega (arith, few);
      some = λ h. omega (arith, waits, end, at');
      all = λ e. absurd (none-some _ (sym e));
      left = omega (arith, room, within, pushed, long);
      ends = omega (arith, frame.ensures.ends, pushed, long);
      small = frame.ensures.small;
      stands = λ t channel m heard st. record {
        count_is = st.count_is;
        ring = c.push_all-2.ensures.holds heard st.ring;
        given = subst (λ (x : ChannelReceiver). HasGiven t channel m x (length (heard ++ more)))
            (sym frame.ensures.same) (step t channel m heard st).1;
      };
      gives = λ t channel m heard st.
          let given = step t channel m heard st in
          given.2
          ∙ ap (λ (f : SoftFrame). soft_frames t channel m heard ++ f ∷ [])
          (sym (frame.ensures.value t channel m (heard ++ more) (length (heard ++ more))
          (c.push_all-2.ensures.holds heard st.ring) given.0));
    }

pub take_frame-requires-clause-ended : goal.take_frame-requires-clause-ended
take_frame-requires-clause-ended c = grind (ints, arith, common_steps)
