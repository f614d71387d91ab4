use Rattle.mobile_core.proofs.Common.{◌≡◌, ℕ, ◌+◌, ◌-◌, ◌*◌, ◌%◌, ◌∙◌, [], sym, ap, refl, arith, frame_chips, Sync, first_frame, frame_end}
use Rattle.mobile_core.proofs.Common.{sync_stream, FrameClock, none-some, first_end}
use Rattle.mobile_core.proofs.ChannelsOpened.{receives_opened}
use Rattle.mobile_core.proofs.SyncHeard.{hears_new}
use Rattle.mobile_core.proofs.sync_receiver.SyncReceiver.new.Goals as goal

-- A new sync receiver stands for no samples: it has the fingers of the base station at the phase
-- that was found, and its first frame begins where the pilot code begins next, as many samples on
-- as the phase falls short of the code's 32,768 chips.
pub returns-clause-hears : goal.returns-clause-hears
returns-clause-hears c = λ t phase deltas.
    let fingers = c.reference_fingers-fingers.result in
    let first : ℕ = (32768 - c.from.result) % 32768 in
    let first_is : first ≡ (sync_stream t).first =
    ap (λ (n : ℕ). (32768 - n) % 32768) (c.from.ensures ∙ c.get.ensures.value ∙ sym phase) in
    let opened = receives_opened t.count (sync_stream t) c.new.result fingers first refl
    (c.reference_fingers-fingers.ensures.value ∙ rw (phase, deltas) refl) first_is
    c.new.ensures.fingers c.new.ensures.sound c.new.ensures.clock [] (omega arith) (omega arith) in
    hears_new t _ opened.0 opened.1 c.new-2.ensures refl refl

-- The receiver's first frame ends where the clock of its channel says.
pub returns-clause-sound : goal.returns-clause-sound
returns-clause-sound c =
    let fingers = c.reference_fingers-fingers.result in
    let first : ℕ = (32768 - c.from.result) % 32768 in
    let ends : c.new.result.clock.end ≡ frame_end fingers Sync
    (first + frame_chips Sync * first_frame fingers first) = ap (λ (k : FrameClock). k.end) c.new.ensures.clock in
    let most = first_end Sync first fingers c.reference_fingers-fingers.ensures.near in
    record {
      channel = c.new.ensures.sound;
      form_is = ap (λ (k : FrameClock). k.form) c.new.ensures.clock;
      frames = omega arith;
      early = omega (arith, ends, most);
      marked = λ m e. absurd (none-some m e);
    }
