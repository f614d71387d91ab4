-- What a continued channel stands for that has just been opened.
use Rattle.mobile_core.proofs.Common.{receives_more, receives_new, frame_chips, first_frame, clock_from, FrameClock, Continued, Receives, ℕ}
use Rattle.mobile_core.proofs.Common.{AreNear, length, Sample, Finger, Stream, subst, arith, List, refl, true, ◌≡◌, ◌+◌, ◌*◌, ◌≤◌, ◌∙◌, ap}
use Rattle.reception.specs.Sound.{IsSoundChannel}

-- A channel that is opened now has received the samples so far, and heard no frame: as a new one it
-- has received nothing and has no frame due, and its first frame starts after these samples.
pub receives_opened : (count : ℕ) (s : Stream) (c : Continued) (fingers : List Finger)
    (first : ℕ) → s.waits ≡ true → fingers ≡ s.fingers → first ≡ s.first → c.fingers ≡ fingers → IsSoundChannel c →
    c.clock ≡ clock_from fingers s.form true first (first_frame fingers first) →
    (heard : List Sample) → length heard ≤ count → length heard ≤ first →
    Receives count s c heard × (c.clock.next ≡ c.clock.low)
receives_opened count s c fingers first waits fingers_are first_is own sound clock heard within early =
    let near = subst AreNear (own ∙ fingers_are) sound.near in
    let clock_is : c.clock ≡ clock_from s.fingers s.form s.waits s.first (first_frame s.fingers s.first) =
    clock ∙ rw (fingers_are, first_is, waits) refl in
    let start : c.clock.start ≡ first + frame_chips s.form * first_frame fingers first =
    ap (λ (k : FrameClock). k.start) clock in
    let same : c.clock.next ≡ c.clock.have = rw clock refl in
    let ends = sound.clocked.start_end in
    let most : length heard ≤ c.clock.end = omega (arith, early, start, ends) in
    let new = receives_new count s c waits near (own ∙ fingers_are) sound.whole clock_is in (
      receives_more new heard (λ d. omega (arith, same, d.0)) (omega (arith, within)) (omega (arith, most)),
      rw clock refl,
    )
