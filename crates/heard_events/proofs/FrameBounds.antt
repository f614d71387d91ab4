-- When the frames of a traffic channel end, whatever pilots each is heard from.
use Rattle.heard_events.proofs.Common.{◌≡◌, ℕ, ◌+◌, ◌^◌, ◌<◌, ◌≤◌, true, ◌&&◌, List, refl, ap, ◌∙◌, arith, nat_le, Bool, le-leb, Data, Leg}
use Rattle.heard_events.proofs.Common.{AreClose, all_fingers, all_begun, frame_end, frame_known, has_frame, traffic_start, Tuning, Mark}
use Rattle.heard_events.proofs.Common.{Traffic, within_is}
use Rattle.rake_finger.proofs.CloseFingers.{close_begun, close_ends}

-- each frame is heard on close fingers
abbrev pub AreCloseAll : Tuning → (ℕ → List Leg) → Type 0
AreCloseAll t legs = (k : ℕ) → AreClose (all_fingers t.phase t.deltas (legs k))

module _ (t : Tuning) (traffic : Traffic) (m : Mark) (legs : ℕ → List Leg) where
  -- a frame is known at its own end
  pub known_is : (k : ℕ) → frame_known t traffic m legs k
      ≡ frame_end (all_fingers t.phase t.deltas (legs k)) Data (traffic_start traffic m k)
  known_is k = refl

  module _ (close : AreCloseAll t legs) where
    pub known_low : (k : ℕ) → traffic_start traffic m k + 24576 ≤ frame_known t traffic m legs k + 226
    known_low k = (close_ends (traffic_start traffic m k) (all_fingers t.phase t.deltas (legs k)) (close k)).0

    pub known_high : (k : ℕ) → frame_known t traffic m legs k ≤ traffic_start traffic m k + 24576 + 226
    known_high k = (close_ends (traffic_start traffic m k) (all_fingers t.phase t.deltas (legs k)) (close k)).1

    -- a later frame ends later
    pub known_later : (j k : ℕ) → j < k → frame_known t traffic m legs j < frame_known t traffic m legs k
    known_later j k less =
        let low = known_low k in
        let high = known_high j in
        omega (arith, less, low, high)

    -- after the first samples a frame lies in the file where it ends there
    pub has_is : 2 ^ 16 ≤ m.sample → (k : ℕ) →
        has_frame t traffic m legs k ≡ nat_le (frame_known t traffic m legs k) t.count
    has_is far k =
        let u : ℕ = traffic_start traffic m k in
        let fingers = all_fingers t.phase t.deltas (legs k) in
        let begun : all_begun u fingers ≡ true = close_begun u fingers (close k).close (omega (arith, far)) in
        within_is Data u t.count fingers
        ∙ ap (λ (b : Bool). b && nat_le (frame_end fingers Data u) t.count) begun

    pub has_here : 2 ^ 16 ≤ m.sample → (k : ℕ) →
        frame_known t traffic m legs k ≤ t.count → has_frame t traffic m legs k ≡ true
    has_here far k most = has_is far k ∙ le-leb (frame_known t traffic m legs k) t.count most
