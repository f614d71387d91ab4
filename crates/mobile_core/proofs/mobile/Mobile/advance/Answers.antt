use Rattle.mobile_core.proofs.Common.{common_steps, ints, ℕ, ◌≡◌, ◌-◌, ◌+◌, ◌++◌, ◌≤◌, ◌∙◌, arith, length, take, length-take, []}
use Rattle.mobile_core.proofs.Stood.{others_wait, stands_come, stands_taken, sync_waits}
use Rattle.mobile_core.proofs.mobile.Mobile.advance.Goals as goal

pub take_ended-requires-2-clause-ended : goal.take_ended-requires-2-clause-ended
take_ended-requires-2-clause-ended c =
    let least = c.least_end.ensures in
    let pushed = c.push_all.ensures.taken in
    least.ends c.push_all.new.self.taken
    (omega (
      arith,
      pushed,
      least.waits,
      c.taken.ensures.value,
      c.min-count.ensures,
      length-take c.min-count.result c.args.samples.now,
    ))

-- Samples are taken up to the end of the next frame of any channel, or all of them: no frame ends
-- before that, so all channels stand for the samples that came, and a frame that ends there is
-- taken by its own channel.
pub returns-clause-steps : goal.returns-clause-steps
returns-clause-steps c =
    let m = c.args.self.now in
    let n : ℕ = c.min-count.result in
    let more = take n c.args.samples.now in
    let room = c.requires.room in
    let some = c.requires.some in
    let none = c.requires.not_due in
    let within = m.sound.within in
    let pushed = c.push_all.ensures.taken in
    let least = c.least_end.ensures in
    let now = c.taken.ensures.value in
    let few = c.min-count.ensures in
    let long : length more ≡ n = omega (arith, few, length-take n c.args.samples.now) in
    let sync = c.take_ended.ensures in
    let others = c.take_ended-2.ensures in
    record {
      most = omega (arith, few);
      room = omega (arith, few, pushed, long, room, within);
      fewer = omega (arith, sync.next, others.same);
      ends = λ t heard given st. tt;
      stands = λ t heard given st.
          let taken = st.ring.taken in
          let holds = c.push_all.ensures.holds heard st.ring in
          let waits = sync_waits st m.sound none in
          let fits : length heard + length more ≤ c.least_end.result =
          omega (arith, few, long, now, taken, least.waits) in
          let on = stands_taken st m.sound none more c.push_all.new.self
          (omega (arith, some, few, long, now, least.waits)) (omega (arith, long, few, room, taken, within))
          (omega (arith, fits, least.sync)) (least.ends (length heard + length more) fits) holds in
          let come = sync.stands t (heard ++ more) holds waits on.sync in
          let follows = others.hears t t.traffic m.sync.mark (heard ++ more) [] holds
          (others_wait st m.sound none) on.followed in
          stands_come on c.take_ended.new.self c.take_ended-2.new.self come sync.next sync.mark
          follows.0 follows.1;
    }

pub invariant_of-self : goal.invariant_of-self
invariant_of-self c =
    let is = c.args.self.now.sound in
    let n : ℕ = c.min-count.result in
    let pushed = c.push_all.ensures in
    let long : length (take n c.args.samples.now) ≡ n =
    omega (arith, c.min-count.ensures, length-take n c.args.samples.now) in
    record {
      sound = record {
        few = is.few;
        within = omega (arith, long, pushed.taken, c.min-count.ensures, c.requires.room, is.within);
        room = pushed.room ∙ is.room;
        decodes = is.decodes;
        hears = c.take_ended.ensures.sound;
        waits = c.take_ended.ensures.waits;
        follows = c.take_ended-2.ensures.sound;
        others_wait = c.take_ended-2.ensures.waits;
      };
    }

pub take_ended-requires-2-clause-idle : goal.take_ended-requires-2-clause-idle
take_ended-requires-2-clause-idle c = grind (ints, arith, common_steps)

pub take_ended-requires-2-clause-few : goal.take_ended-requires-2-clause-few
take_ended-requires-2-clause-few c = grind (ints, arith, common_steps)
