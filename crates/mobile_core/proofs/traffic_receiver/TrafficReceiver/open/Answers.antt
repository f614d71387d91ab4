use Rattle.mobile_core.proofs.Common.{◌≡◌, ◌+◌, ◌*◌, ◌∙◌, ℕ, ℤ, List, true, false, ap, sym, subst, arith, refl, take, length-take, pos, Leg}
use Rattle.mobile_core.proofs.Common.{new_standing, AreClose, all_begun, all_close, all_fingers, legs_of, FrameClock, Scrambling, Data}
use Rattle.mobile_core.proofs.Common.{clock_from, if◌then◌else◌, close_begun}
use Rattle.mobile_core.proofs.FramesOpened.{first_paths, hears_opened, paths_some, zeros_few}
use Rattle.mobile_core.proofs.traffic_receiver.TrafficReceiver.open.Goals.{After-new-frames}
use Rattle.mobile_core.proofs.traffic_receiver.TrafficReceiver.open.Goals as goal

-- the fingers are only those of the reference's pilot
are_close : (c : After-new-frames) → AreClose c.leg_fingers-fingers.result
are_close c =
    let fingers = c.leg_fingers-fingers.ensures in
    record { some = fingers.least; close = fingers.close }

-- frame 0 begins in the file
first_clock : (c : After-new-frames) → c.new-frames.result.clock
    ≡ clock_from c.leg_fingers-fingers.result Data false (c.args.mark.now.sample + 1536 * c.from.result) 0
first_clock c =
    let start : ℕ = c.args.mark.now.sample + 1536 * c.from.result in
    let late = c.requires.mark.late in
    let begun : all_begun start c.leg_fingers-fingers.result ≡ true =
    close_begun start c.leg_fingers-fingers.result (are_close c).close (omega (arith, late)) in
    c.new-frames.ensures.clock
    ∙ ap {B = FrameClock} (λ b. clock_from c.leg_fingers-fingers.result Data false start (if b then 0 else 1)) begun

-- A receiver that was just opened is sound: its fingers are those of the one pilot that is active
-- at first, its first frame begins at the mark or by the frame offset later, its soft values are 0
-- and its subchannels empty.
pub returns-clause-sound : goal.returns-clause-sound
returns-clause-sound c =
    let here = (goal.at.returns-clause-sound c).After-new-frames in
    let m = c.args.mark.now in
    let row = c.args.traffic.now.row in
    let near = c.args.near.now in
    let paths = take near.count near.deltas in
    let fingers = c.leg_fingers-fingers.ensures in
    let marked = c.requires.mark in
    let clock = first_clock here in
    let start = ap (λ (k : FrameClock). k.start) clock in
    let have = ap (λ (k : FrameClock). k.have) clock in
    let next = ap (λ (k : FrameClock). k.next) clock in
    let first : all_close (all_fingers c.args.phase paths
    (legs_of m (new_standing m.pilot row))) ≡ true =
    sym (ap all_close (fingers.value ∙ ap (all_fingers c.args.phase paths) c.requires.active))
    ∙ fingers.close in
    record {
      set = record {
        least = c.requires.least;
        most = c.requires.most;
        path_some = omega (
          arith,
          length-take near.count near.deltas,
          c.requires.least,
          paths_some near.deltas (pos 0) c.requires.first,
        );
        paths = first_paths m row c.args.phase paths first;
      };
      frames = c.new-frames.ensures.sound;
      fingers_are = c.new-frames.ensures.fingers ∙ fingers.value;
      have_most = omega (arith, have);
      start_least = omega (arith, start, have, marked.late);
      start_most = omega (arith, start, marked.early, c.requires.offset, c.from.ensures);
      legs = c.requires.legs;
      small = omega (arith, zeros_few);
      subchannels = omega (arith, c.empty.ensures.count);
    }

-- A receiver that was just opened stands for the channel before its first frame: its fingers are
-- those of the first active pilot on the handset's phase and paths, and its scrambling has the
-- state and the mask of that frame.
pub returns-clause-hears : goal.returns-clause-hears
returns-clause-hears c = λ t heard phase deltas within early.
    let here = (goal.at.returns-clause-hears c).After-new-frames in
    let m = c.args.mark.now in
    let near = c.args.near.now in
    let paths = take near.count near.deltas in
    let scrambling = c.traffic_scrambling.ensures in
    let same = c.new-frames.ensures.scrambling in
    let clock = first_clock here in
    let start = ap (λ (k : FrameClock). k.start) clock in
    let first : List Leg = legs_of m (new_standing m.pilot c.args.traffic.now.row) in
    let fingers_are = c.leg_fingers-fingers.ensures.value
    ∙ ap (all_fingers c.args.phase paths) c.requires.active
    ∙ ap (λ (p : ℕ). all_fingers p paths first) (sym phase)
    ∙ ap (λ (ds : List ℤ). all_fingers t.phase ds first) (sym deltas) in
    hears_opened
    (record {
      mark_is = refl;
      phase_is = sym phase;
      deltas_are = sym deltas;
      state_is = ap (λ (x : Scrambling). x.state) same ∙ scrambling.state;
      mask_is = ap (λ (x : Scrambling). x.mask) same ∙ scrambling.mask;
      offset = c.requires.offset;
    })
    (ap (λ (k : FrameClock). k.next) clock) (ap (λ (k : FrameClock). k.have) clock) refl
    c.requires.active (subst AreClose fingers_are (are_close here)) within early
    (omega (arith, start, c.from.ensures)) c.new.ensures
