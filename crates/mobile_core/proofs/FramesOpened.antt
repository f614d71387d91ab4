-- The meaning of a traffic channel's receiver and its pilot sets when they are opened.
use Rattle.mobile_core.proofs.Common.{◌≡◌, ℕ, ◌-◌, ◌≤◌, List, [], ◌∷◌, length, ℤ, refl, sym, ap, ◌∙◌, arith, subst, None, true, pos, get_or}
use Rattle.mobile_core.proofs.Common.{replicate, append-nil, ◌==◌, Some, slice_get, eq-eqb, unsigned_abs, sum_by, sum_by-replicate, places}
use Rattle.mobile_core.proofs.Common.{Sample, Standing, new_standing, CapsuleStandsFor, AreClose, all_close, paths_close, all_fingers, Leg}
use Rattle.mobile_core.proofs.Common.{legs_of, pilot_finger, heard_from, kept_to, moment_place, all_noted, signals_before, HearsTraffic}
use Rattle.mobile_core.proofs.Common.{told_left_with, traffic_start, Tuning, fingers_of, Event, Mark, Traffic, TrafficReceiver, known_low}
use Rattle.mobile_core.proofs.Common.{pilot_alone, paths_fingers, IsTunedIn, beside, first_keeper, heard_none, told_left_none}
use Rattle.mobile_core.proofs.FramesHeard.{left_unkept}

-- no soft value has come
pub zeros_few : sum_by unsigned_abs (replicate 384 (pos 0)) ≡ 0
zeros_few = sum_by-replicate unsigned_abs 384 (pos 0)

-- there is a first path
pub paths_some : (deltas : List ℤ) (d : ℤ) → slice_get deltas 0 ≡ Some d → 1 ≤ length deltas
paths_some [] d h = absurd (cc)
paths_some (x ∷ deltas) d h = omega arith

-- if the paths of the reference's pilot are close, so are its fingers, and no other pilot has any
pub first_paths : (m : Mark) (row phase : ℕ) (deltas : List ℤ) →
    all_close (all_fingers phase deltas (legs_of m (new_standing m.pilot row))) ≡ true → paths_close deltas ≡ true
first_paths m row phase deltas h =
    let finger = pilot_finger m (get_or (new_standing m.pilot row).deltas m.pilot (pos 0))
    (record { pilot = m.pilot; row = row; subchannel = 0 }) in
    sym (paths_fingers row phase deltas)
    ∙ ap all_close (sym (append-nil (fingers_of row phase deltas)))
    ∙ ap all_close (sym (pilot_alone phase deltas (m.pilot == m.pilot) finger 0 (eq-eqb m.pilot m.pilot refl)))
    ∙ h

-- before frame 0 nothing was signaled
signals_start : (t : Tuning) (traffic : Traffic) (m : Mark) (legs : ℕ → List Leg)
    (samples : List Sample) → signals_before t traffic m legs samples 0 ≡ []
unfolding signals_before places
signals_start t traffic m legs samples = refl

module _ {t : Tuning} {traffic : Traffic} {m : Mark} {r : TrafficReceiver} {heard : List Sample}
    (tuned : IsTunedIn t traffic m m r.phase r.near r.frames.scrambling)
    (next : r.frames.clock.next ≡ 0) (have : r.frames.clock.have ≡ 0) (empty : r.kept ≡ None)
    (legs_is : r.legs ≡ legs_of m (new_standing m.pilot traffic.row))
    (close : AreClose (all_fingers t.phase t.deltas (legs_of m (new_standing m.pilot traffic.row))))
    (within : length heard ≤ t.count) (early : length heard ≤ m.sample) where
  -- A traffic channel that is opened at its mark stands for no frame heard: no sample after the
  -- mark has been taken, so no frame and no moment has come, no message is begun, and only the
  -- reference pilot is active.
  pub hears_opened : r.frames.clock.start ≡ traffic_start traffic m 0 → CapsuleStandsFor r.framer [] →
      HearsTraffic t traffic m (beside (first_keeper m traffic.row) r) heard []
  unfolding kept_to
  hears_opened start framed =
      let new : Standing = new_standing m.pilot traffic.row in
      let legs : ℕ → List Leg = λ k. legs_of m new in
      let none_left : told_left_with t traffic m heard r (λ i. new) ≡ [] =
      left_unkept t traffic m heard r (λ i. new) empty
      ∙ told_left_none t traffic m legs heard r.frames.clock.next
      (λ k above.
      let low = known_low t traffic m legs (λ i. close) k in omega (arith, low, early)) in
      let count : length heard - moment_place m 0 ≡ 0 = omega (arith, early) in
      record {
        tuned = tuned;
        among = record {
          within = within;
          begun = λ some. absurd (omega (arith, some));
          coming = omega (arith, early);
          due_is = λ due. absurd (cc);
        };
        frames = record {
          start_is = start ∙ ap (traffic_start traffic m) (sym have);
          ended = λ k less. absurd (omega (arith, less, next));
          come = λ come. absurd (omega (arith, come, have));
          framed = subst (CapsuleStandsFor r.framer)
              (sym (ap (signals_before t traffic m legs heard) next
              ∙ signals_start t traffic m legs heard)) framed;
        };
        close = λ i. close;
        legs_are = λ told. legs_is;
        pilots_are = refl;
        following = λ event rest left some. absurd (omega (arith, some));
        sets_are = ap (λ (es : List Event). all_noted m es new) none_left
            ∙ sym (heard_none t traffic m (λ i. new) 0 heard [])
            ∙ sym (ap (heard_from t traffic m (λ i. new) heard 0) count);
      }
