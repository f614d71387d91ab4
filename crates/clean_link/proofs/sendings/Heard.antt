-- What a handset hears in each sync frame of a clean link.
use Rattle.clean_link.proofs.Common.{◌≡◌, ℕ, suc, ◌+◌, ◌*◌, ◌^◌, ◌<◌, ◌≤◌, ◌&&◌, Bool, true, false, List, [], length, map, filter, refl, ap}
use Rattle.clean_link.proofs.Common.{replicate, ◌∙◌, arith, nat_lt, nat_le, Some, None, if◌then◌else◌, mul-le-mul_left, map-map, places}
use Rattle.clean_link.proofs.Common.{CheckForm, Sample, most_samples, Width, Eight, Sixteen, after, after_lt, Piece, piece, from_last_start}
use Rattle.clean_link.proofs.Common.{capsule_ending, IsSyncMessage, sync_capsule, SyncFields, IsLawfulPlan, IsSyncPlan, message_of, Tuning}
use Rattle.clean_link.proofs.Common.{told_superframes, superframes_a_sending, sync_frame_bits, IsSendable, CellPlan, SyncPlan, length-sync}
use Rattle.clean_link.proofs.Common.{refilled_is, superframes_few, told_early, frame_own_bits, frames_before, sync_capsule_at, heard_in}
use Rattle.clean_link.proofs.Common.{heard_at, with_message, sync_stream, map_ext_filter_places, IsOnPath, first_sync_frame, ShowsSync, ◌-◌}
use Rattle.clean_link.proofs.Common.{◌/◌, and_parts, and_from, and_right, lt-ltb, le-leb, lt-leb, leb-true, ltb-true, superframes_some, ◌≢◌}
use Rattle.clean_link.proofs.Common.{is_whole, sending_begins, sending_ends, ⊎_elim, cond, ◌∷◌, sym, Option, flat_map, cases_Bool, Event}
use Rattle.clean_link.proofs.Common.{false_from_ne_true, events_of, sync_events_at, sync_bound, flat_map_ext_filter, WholeSendingsComeBack}
use Rattle.clean_link.proofs.Common.{events_of_channel, heard_after, sending_event, sync_sent, whole_sendings, filter_all_places}
use Rattle.clean_link.proofs.frames.ChannelFrames.{shows_sync}
use Rattle.sync_message.proofs.Readings.{reads_capsule}
use Rattle.paging_message.proofs.Pieces.{run, run-places, none_starts}
use Rattle.clean_frames.proofs.sendings.Capsules.{IsSentAt, piece_of, pieces_end, sending_frames}
use Rattle.clean_link.proofs.frames.Times.{frames_begin, in_file_from, in_file_to, one_path, end_of_frame, known_is, sync_timed}
use Rattle.clean_link.proofs.sendings.Order.{in_file, blocks, given_where, flat_map-filter, map-filter, moved_up, quiet, events_by_frames}
use Rattle.clean_link.proofs.sendings.Order.{frame_events, frames_of, known}
use Rattle.heard_events.specs.declared.event.Event.TheVariants.{Sync}

-- ---- the pieces

-- the pieces up to a frame in the file, where the bits of those frames are known
pieces_from : (t : Tuning) (samples : List Sample) (bits : ℕ → List Bool) (k : ℕ) →
    t.deltas ≡ one_path → in_file t k ≡ true →
    ((j : ℕ) → in_file t j ≡ true → frame_own_bits t.count samples (sync_stream t) j ≡ bits j) →
    map piece (frames_before t samples (k + 1)) ≡ run (λ j. piece (bits j)) 0 (suc k)
unfolding frames_before
pieces_from t samples bits k alone there back =
    ap (map piece) (map_ext_filter_places (in_file t) (frame_own_bits t.count samples (sync_stream t)) bits
    (k + 1) (λ j lt here. back j here)
    ∙ ap (map bits)
    (filter_all_places (in_file t) (k + 1)
    (λ j lt. in_file_from t j alone (omega (arith, in_file_to t k alone there, lt)))))
    ∙ map-map piece bits (places (k + 1))
    ∙ run-places (λ j. piece (bits j)) (k + 1)
    ∙ ap (run (λ j. piece (bits j)) 0) (let e : k + 1 ≡ suc k = omega arith in e)

-- ---- what is heard without a sync channel
capsule_is : (t : Tuning) (samples : List Sample) (k : ℕ) → heard_at t samples k ≡
    heard_in t.check30 (capsule_ending (map piece (frames_before t samples (k + 1))))
unfolding heard_at sync_capsule_at
capsule_is t samples k = refl

none_ends : (pieces : List Piece) → from_last_start pieces ≡ [] → capsule_ending pieces ≡ None
unfolding capsule_ending
none_ends pieces none = rw none refl

-- ---- what a transmission's frames end
-- whether frame w of a transmission, which is the file's frame k, ends it, and its first frame is in the
-- file
abbrev pub ends_sending : CellPlan → SyncFields → ℕ → ℕ → Bool
ends_sending plan m k w =
    let size = length (sync_capsule plan.cell.check30 m) in
    nat_le w k && nat_lt (31 * w) size && nat_le size (31 * (w + 1))

message_is : (plan : CellPlan) (m : SyncFields) (q : ℕ) → IsSendable plan.cell m → q < 2 ^ 20 →
    IsSyncMessage (message_of plan.cell m q)
unfolding message_of
message_is plan m q sendable early =
    refilled_is m plan.cell.pn (plan.cell.time + told_superframes plan.cell m q)
    (after plan.cell.lc (98304 * told_superframes plan.cell m q)) sendable.message sendable.pn
    (told_early plan.cell.time q (superframes_a_sending plan.cell m) sendable.time
    (superframes_few plan.cell.check30 m sendable.message) early)
    (after_lt plan.cell.lc (98304 * told_superframes plan.cell m q))

few_samples : (width : Width) → most_samples width ≤ 2 ^ 26
few_samples Sixteen = omega arith
few_samples Eight = omega arith

-- a frame in the file has a small number
frame_early : (width : Width) (plan : CellPlan) (t : Tuning) (k : ℕ) → IsLawfulPlan width plan →
    IsOnPath plan t → in_file t k ≡ true → first_sync_frame plan + k < 2 ^ 20
frame_early width plan t k lawful tuned there =
    let begins = frames_begin plan t k lawful.pn tuned.phase in
    let ends = in_file_to t k tuned.alone there in
    omega (arith, begins, ends, tuned.count, lawful.samples, few_samples width, lawful.start)

-- a transmission has a lesser number than its frames
sending_early : (plan : CellPlan) (m : SyncFields) (base k q w : ℕ) → IsSentAt plan m base k q w → q ≤ base + k
sending_early plan m base k q w is =
    let some : 1 ≤ sending_frames plan m = omega (arith, length-sync plan.cell.check30 m) in
    let more : q * 1 ≤ q * sending_frames plan m = mul-le-mul_left q some in
    omega (arith, is.parts, more)

pub sendable_of : (width : Width) (plan : CellPlan) (sync : SyncPlan) → IsLawfulPlan width plan →
    plan.sync ≡ Some sync → IsSendable plan.cell sync.message
sendable_of width plan sync lawful sends =
    let is : IsSyncPlan (Some sync) = rw sends at lawful.sync in
    record { pn = lawful.pn; time = lawful.time; lc = lawful.lc; message = is.1 }

heard_choice : (form : CheckForm) (b : Bool) (m : SyncFields) → IsSyncMessage m →
    heard_in form (if b then Some (sync_capsule form m) else None) ≡
    (if b then with_message (sync_capsule form m) (Some m) else None)
heard_choice form true m is = ap (with_message (sync_capsule form m)) (reads_capsule form m is)
heard_choice form false m is = refl

-- ---- what is heard in a frame, of samples that show the frames of the sync channel

module _ {width : Width} {plan : CellPlan} {samples : List Sample} {t : Tuning}
    (is : ShowsSync width plan samples) (tuned : IsOnPath plan t) where
  -- nothing without a sync channel
  pub none_heard : plan.sync ≡ None → (k : ℕ) → in_file t k ≡ true → heard_at t samples k ≡ None
  none_heard silent k there =
      let pieces =
      pieces_from t samples (λ j. replicate 32 false) k tuned.alone there (λ j here. is.none t j silent tuned here) in
      capsule_is t samples k
      ∙ ap (heard_in t.check30) (ap capsule_ending pieces ∙
      none_ends (run (λ j. piece (replicate 32 false)) 0 (suc k))
      (none_starts (λ j. piece (replicate 32 false)) 0 (suc k) (λ i lt. refl)))

  -- the transmission that ends there with one
  module _ (sync : SyncPlan) (sends : plan.sync ≡ Some sync) where
    pub heard_pieces : (k : ℕ) → in_file t k ≡ true → map piece (frames_before t samples (k + 1)) ≡
        run (piece_of plan sync.message (first_sync_frame plan)) 0 (suc k)
    heard_pieces k there =
        pieces_from t samples
        (λ j. sync_frame_bits plan.cell sync.message (first_sync_frame plan + j)) k tuned.alone there
        (λ j here. is.back sync t j sends tuned here)

    -- Frame w of transmission q, which is the file's frame k, completes the transmission's event if
    -- it is its last frame, and otherwise no event.
    pub heard_is : (k q w : ℕ) (ends : Bool) → in_file t k ≡ true →
        IsSentAt plan sync.message (first_sync_frame plan) k q w → ends_sending plan sync.message k w ≡ ends →
        heard_at t samples k ≡
        (if ends then with_message (sync_capsule plan.cell.check30 (message_of plan.cell sync.message q))
        (Some (message_of plan.cell sync.message q)) else None)
    heard_is k q w ends there place is_end =
        let m = sync.message in
        let sendable = sendable_of width plan sync is.receivable.lawful sends in
        let begun = frame_early width plan t k is.receivable.lawful tuned there in
        let sent = sending_early plan m (first_sync_frame plan) k q w place in
        let early : q < 2 ^ 20 = omega (arith, begun, sent) in
        capsule_is t samples k
        ∙ ap (λ form. heard_in form (capsule_ending (map piece (frames_before t samples (k + 1))))) tuned.checks_of_30
        ∙ ap (heard_in plan.cell.check30) (ap capsule_ending (heard_pieces k there) ∙
        pieces_end plan m (first_sync_frame plan) k q w sendable.message.fills place)
        ∙ ap (λ b. heard_in plan.cell.check30
        (if b then Some (sync_capsule plan.cell.check30 (message_of plan.cell m q)) else None)) is_end
        ∙ heard_choice plan.cell.check30 ends (message_of plan.cell m q) (message_is plan m q sendable early)

-- ---- the frame of a transmission that ends it
abbrev pub last_frame : CellPlan → SyncFields → ℕ
last_frame plan m = (length (sync_capsule plan.cell.check30 m) + 30) / 31 - 1

pub last_within : (plan : CellPlan) (m : SyncFields) → last_frame plan m < sending_frames plan m
last_within plan m = omega (arith, length-sync plan.cell.check30 m)

-- The last frame ends a transmission whose first frame is in the file, since the capsule goes on
-- after the frames before this one and is whole with its 31 bits.
pub ends_there : (plan : CellPlan) (m : SyncFields) (k w : ℕ) → w ≡ last_frame plan m → w ≤ k →
    ends_sending plan m k w ≡ true
ends_there plan m k w is begun =
    let size = length (sync_capsule plan.cell.check30 m) in
    let long = length-sync plan.cell.check30 m in
    and_from (nat_le w k && nat_lt (31 * w) size) (nat_le size (31 * (w + 1)))
    (and_from (nat_le w k) (nat_lt (31 * w) size) (le-leb w k begun) (lt-ltb (31 * w) size (omega (arith, is, long))))
    (le-leb size (31 * (w + 1)) (omega (arith, is, long)))

-- what a frame that ends a transmission tells
pub record EndsSending (plan : CellPlan) (m : SyncFields) (k w : ℕ) : Type 0 where
  pub begun : w ≤ k
  pub last : w ≡ last_frame plan m

-- A frame that ends a transmission is its last one, and the file has its first one too. The test
-- asks that the capsule goes on after the 31 bits of each earlier frame and is whole with this
-- frame's, which only the frame with the capsule's last bit does.
pub ends_tells : (plan : CellPlan) (m : SyncFields) (k w : ℕ) → ends_sending plan m k w ≡ true → EndsSending plan m k w
ends_tells plan m k w h =
    let size = length (sync_capsule plan.cell.check30 m) in
    let both = and_parts (nat_le w k && nat_lt (31 * w) size) (nat_le size (31 * (w + 1))) h in
    let front = and_parts (nat_le w k) (nat_lt (31 * w) size) both.0 in
    let more = ltb-true (31 * w) size front.1 in
    let whole = leb-true size (31 * (w + 1)) both.1 in
    record { begun = leb-true w k front.0; last = omega (arith, more, whole) }

-- ---- where a transmission lies
-- Its last frame is the file's frame k.
abbrev pub IsLast : CellPlan → SyncFields → ℕ → ℕ → Type 0
IsLast plan m k q = IsSentAt plan m (first_sync_frame plan) k q (last_frame plan m)

pub threefold : (q n : ℕ) → q * (3 * n) ≡ 3 * (q * n)
threefold q n = omega arith

pub ends_where : (width : Width) (plan : CellPlan) (m : SyncFields) (t : Tuning) (k q : ℕ) →
    IsLawfulPlan width plan → IsOnPath plan t → IsLast plan m k q →
    sending_ends plan m q ≡ plan.link.start + end_of_frame t k
ends_where width plan m t k q lawful tuned is =
    let begins = frames_begin plan t k lawful.pn tuned.phase in
    let frames = threefold q (superframes_a_sending plan.cell m) in
    let long = length-sync plan.cell.check30 m in
    omega (arith, begins, is.parts, frames, long)

-- it begins in the file just where the file's first frame isn't later than its first
begins_inside : (width : Width) (plan : CellPlan) (m : SyncFields) (t : Tuning) (q : ℕ) →
    IsLawfulPlan width plan → IsOnPath plan t →
    (first_sync_frame plan ≤ q * sending_frames plan m → plan.link.start ≤ sending_begins plan m q)
    × (plan.link.start ≤ sending_begins plan m q → first_sync_frame plan ≤ q * sending_frames plan m)
begins_inside width plan m t q lawful tuned =
    let begins = frames_begin plan t 0 lawful.pn tuned.phase in
    let frames = threefold q (superframes_a_sending plan.cell m) in
    (λ early. omega (arith, begins, early, frames), λ inside. omega (arith, begins, inside, frames))

pub whole_from : (width : Width) (plan : CellPlan) (m : SyncFields) (t : Tuning) (k q : ℕ) →
    IsLawfulPlan width plan → IsOnPath plan t → IsLast plan m k q →
    last_frame plan m ≤ k → in_file t k ≡ true → is_whole plan m q ≡ true
whole_from width plan m t k q lawful tuned is begun there =
    let ends = ends_where width plan m t k q lawful tuned is in
    let fits = in_file_to t k tuned.alone there in
    and_from (nat_le plan.link.start (sending_begins plan m q))
    (nat_le (sending_ends plan m q) (plan.link.start + plan.link.samples))
    (le-leb plan.link.start (sending_begins plan m q)
    ((begins_inside width plan m t q lawful tuned).0 (omega (arith, is.parts, begun))))
    (le-leb (sending_ends plan m q) (plan.link.start + plan.link.samples) (omega (arith, ends, fits, tuned.count)))

-- a whole transmission's last frame
pub record IsInside (plan : CellPlan) (m : SyncFields) (t : Tuning) (k q : ℕ) : Type 0 where
  pub last : IsLast plan m k q
  pub begun : last_frame plan m ≤ k
  pub there : in_file t k ≡ true

-- A transmission that is whole has all of its frames in the file: it begins in the file, so its
-- first frame is the file's first one or a later one, and it ends in the file, so its last frame
-- does too.
pub whole_to : (width : Width) (plan : CellPlan) (m : SyncFields) (t : Tuning) (q : ℕ) →
    IsLawfulPlan width plan → IsOnPath plan t → is_whole plan m q ≡ true →
    (first_sync_frame plan ≤ q * sending_frames plan m) ×
    IsInside plan m t (q * sending_frames plan m + last_frame plan m - first_sync_frame plan) q
whole_to width plan m t q lawful tuned whole =
    let both =
    and_parts (nat_le plan.link.start (sending_begins plan m q))
    (nat_le (sending_ends plan m q) (plan.link.start + plan.link.samples)) whole in
    let early =
    (begins_inside width plan m t q lawful tuned).1 (leb-true plan.link.start (sending_begins plan m q) both.0) in
    let inside = leb-true (sending_ends plan m q) (plan.link.start + plan.link.samples) both.1 in
    let k = q * sending_frames plan m + last_frame plan m - first_sync_frame plan in
    let is : IsLast plan m k q = record {
      parts = omega (arith, early);
      low = last_within plan m;
    } in (
      early,
      record {
        last = is;
        begun = omega (arith, early);
        there = in_file_from t k tuned.alone
            (omega (arith, ends_where width plan m t k q lawful tuned is, inside, tuned.count));
      },
    )

-- transmissions that are whole have small numbers
pub late_sending : (plan : CellPlan) (m : SyncFields) (q : ℕ) →
    (plan.link.start + plan.link.samples) / 98304 + 1 ≤ q → is_whole plan m q ≡ false
late_sending plan m q late =
    let more : q * 1 ≤ q * superframes_a_sending plan.cell m =
    mul-le-mul_left q (superframes_some plan.cell.check30 m) in
    and_right (nat_le plan.link.start (sending_begins plan m q))
    (nat_le (sending_ends plan m q) (plan.link.start + plan.link.samples))
    (lt-leb (sending_ends plan m q) (plan.link.start + plan.link.samples)
    (omega (arith, more, late, length-sync plan.cell.check30 m)))

-- ---- the frames of the cell, of which those in the file tell something
abbrev tells : {X : Type 0} → (ℕ → List X) → CellPlan → Tuning → ℕ → List X
tells give plan t j =
    cond (nat_le (first_sync_frame plan) j && in_file t (j - first_sync_frame plan))
    (give (j - first_sync_frame plan)) []

module _ {X : Type 0} (give : ℕ → List X) (plan : CellPlan) (t : Tuning) where
  tells_early : (j : ℕ) → j < first_sync_frame plan → tells give plan t j ≡ []
  tells_early j early = let e = lt-leb (first_sync_frame plan) j early in rw e refl

  tells_moved : (k : ℕ) → tells give plan t (first_sync_frame plan + k) ≡ given_where (in_file t) give k
  tells_moved k =
      let e = le-leb (first_sync_frame plan) (first_sync_frame plan + k) (omega arith) in
      let same : first_sync_frame plan + k - first_sync_frame plan ≡ k = omega arith in
      ap (λ b. cond (b && in_file t (first_sync_frame plan + k - first_sync_frame plan))
      (give (first_sync_frame plan + k - first_sync_frame plan)) []) e
      ∙ ap (given_where (in_file t) give) same

  -- a frame that isn't in the file tells nothing
  tells_if : (j : ℕ) →
      (first_sync_frame plan ≤ j → in_file t (j - first_sync_frame plan) ≡ true →
      give (j - first_sync_frame plan) ≡ []) → tells give plan t j ≡ []
  tells_if j none =
      let begun = nat_le (first_sync_frame plan) j in
      let there = in_file t (j - first_sync_frame plan) in
      ⊎_elim
      (λ (yes' : (begun && there) ≡ true).
      let both = and_parts begun there yes' in
      rw yes' (none (leb-true (first_sync_frame plan) j both.0) both.1))
      (λ (no' : (begun && there) ≡ false). rw no' refl) (cases_Bool (begun && there))

  -- the file ends before this frame
  tells_late : (i : ℕ) → IsOnPath plan t → tells give plan t (first_sync_frame plan + sync_bound t.count + i) ≡ []
  tells_late i tuned =
      tells_if (first_sync_frame plan + sync_bound t.count + i)
      (λ early there. absurd
      (omega (
        arith,
        in_file_to t (first_sync_frame plan + sync_bound t.count + i - first_sync_frame plan)
            tuned.alone there,
      )))

-- numbers at which nothing is known
pub none_known : {X : Type 0} (ks : List ℕ) → flat_map (λ (n : ℕ). let none : List X = [] in none) ks ≡ []
none_known [] = refl
none_known (k ∷ ks) = none_known ks

-- Where the last frame of a transmission that the file holds gives one thing, and other frames give
-- nothing, the frames of the file give that of each whole transmission, in order.
module _ {width : Width} {plan : CellPlan} {t : Tuning} (lawful : IsLawfulPlan width plan)
    (tuned : IsOnPath plan t) (m : SyncFields) {X : Type 0} (give : ℕ → List X) (sent : ℕ → X)
    (none : (k q w : ℕ) → in_file t k ≡ true → IsSentAt plan m (first_sync_frame plan) k q w →
    ends_sending plan m k w ≡ false → give k ≡ [])
    (one : (k q : ℕ) → IsInside plan m t k q → give k ≡ sent q ∷ []) where
  -- other frames than a transmission's last tell nothing
  tells_other : (q w : ℕ) → w < sending_frames plan m → w ≢ last_frame plan m →
      tells give plan t (q * sending_frames plan m + w) ≡ []
  tells_other q w low other =
      let j = q * sending_frames plan m + w in
      tells_if give plan t j
      (λ early there.
      let k = j - first_sync_frame plan in
      let over : ends_sending plan m k w ≡ false =
      false_from_ne_true (ends_sending plan m k w) (λ h. other (ends_tells plan m k w h).last) in
      none k q w there (record { parts = omega (arith, early); low = low }) over)

  -- the last frame completes the event of a whole transmission
  tells_last : (q : ℕ) → tells give plan t (q * sending_frames plan m + last_frame plan m) ≡
      given_where (is_whole plan m) (λ s. sent s ∷ []) q
  tells_last q =
      let j = q * sending_frames plan m + last_frame plan m in
      let k = j - first_sync_frame plan in
      ⊎_elim
      (λ (whole : is_whole plan m q ≡ true).
      let (early, inside) = whole_to width plan m t q lawful tuned whole in
      let e = le-leb (first_sync_frame plan) j (omega (arith, early)) in
      ap (λ b. cond b (give k) []) (and_from (nat_le (first_sync_frame plan) j) (in_file t k) e inside.there)
      ∙ one k q inside ∙ sym (ap (λ b. cond b (sent q ∷ []) []) whole))
      (λ (part : is_whole plan m q ≡ false). tells_if give plan t j
      (λ early there.
      let place : IsSentAt plan m (first_sync_frame plan) k q (last_frame plan m) =
      record { parts = omega (arith, early); low = last_within plan m } in
      let over : ends_sending plan m k (last_frame plan m) ≡ false =
      false_from_ne_true (ends_sending plan m k (last_frame plan m))
      (λ h.
      let whole =
      whole_from width plan m t k q lawful tuned place (ends_tells plan m k (last_frame plan m) h).begun there in
      cc) in
      none k q (last_frame plan m) there place over)
      ∙ sym (ap (λ b. cond b (sent q ∷ []) []) part))
      (cases_Bool (is_whole plan m q))

  -- all of them
  pub whole_give : flat_map give (filter (in_file t) (frames_of t)) ≡ map sent (whole_sendings plan m)
  whole_give =
      let base = first_sync_frame plan in
      let b = sync_bound t.count in
      let f = sending_frames plan m in
      let c = (plan.link.start + plan.link.samples) / 98304 + 1 in
      let n = c + (base + b) in
      let H = given_where (is_whole plan m) (λ s. sent s ∷ []) in
      let some : 1 ≤ f = omega (arith, length-sync plan.cell.check30 m) in
      let more : n * 1 ≤ n * f = mul-le-mul_left n some in
      let room : base + b + (n * f - (base + b)) ≡ n * f = omega (arith, more) in
      flat_map-filter (in_file t) give (places b)
      ∙ sym (moved_up (given_where (in_file t) give) (tells give plan t) base b
      (λ i lt. tells_early give plan t i lt) (λ k. tells_moved give plan t k))
      ∙ sym (quiet (tells give plan t) (base + b) (n * f - (base + b)) (λ i lt. tells_late give plan t i tuned))
      ∙ ap (λ i. flat_map (tells give plan t) (places i)) room
      ∙ blocks (tells give plan t) H f (last_frame plan m) n (last_within plan m) tells_last tells_other
      ∙ quiet H c (base + b)
      (λ i lt. ap (λ x. cond x (sent (c + i) ∷ []) []) (late_sending plan m (c + i) (omega arith)))
      ∙ sym (map-filter (is_whole plan m) sent (places c))

-- and where no frame gives anything, they give nothing
pub none_give : {X : Type 0} (t : Tuning) (give : ℕ → List X) → ((k : ℕ) → in_file t k ≡ true → give k ≡ []) →
    flat_map give (filter (in_file t) (frames_of t)) ≡ []
none_give t give none =
    flat_map_ext_filter (in_file t) give (λ k. []) (frames_of t) none ∙ none_known (filter (in_file t) (frames_of t))

-- ---- what frames tell, of samples that show the frames of the sync channel

module _ {width : Width} {plan : CellPlan} {samples : List Sample} {t : Tuning}
    (is : ShowsSync width plan samples) (tuned : IsOnPath plan t) where
  -- The last frame of a transmission that the file holds tells the event of this transmission:
  -- its message is heard there, and it is known when the definition says, since the frame and the
  -- transmission end at the same chip.
  tells_sending : (sync : SyncPlan) → plan.sync ≡ Some sync → (k q : ℕ) → IsInside plan sync.message t k q →
      frame_events t samples k ≡ sending_event plan sync.message q ∷ []
  tells_sending sync sends k q inside =
      let m = sync.message in
      let heard =
      heard_is is tuned sync sends k q (last_frame plan m) true inside.there
      inside.last (ends_there plan m k (last_frame plan m) refl inside.begun) in
      let ends : end_of_frame t k ≡ sending_ends plan m q - plan.link.start =
      omega (arith, ends_where width plan m t k q is.receivable.lawful tuned inside.last) in
      let when : known t k ≡
      heard_after 32768 plan.link.samples (sending_ends plan m q - plan.link.start) =
      known_is t k tuned.alone ∙ ap (λ n. heard_after 32768 n (end_of_frame t k)) tuned.count ∙
      ap (heard_after 32768 plan.link.samples) ends in
      ap (events_of (known t k)) heard
      ∙ ap (λ (n : ℕ). let e : Event = Sync n (sync_capsule plan.cell.check30 (message_of plan.cell m q))
      (message_of plan.cell m q) in e ∷ []) when

  by_frames : (channel : Option SyncPlan) → plan.sync ≡ channel →
      flat_map (frame_events t samples) (filter (in_file t) (frames_of t)) ≡ events_of_channel plan channel
  by_frames None silent =
      none_give t (frame_events t samples) (λ k there. ap (events_of (known t k)) (none_heard is tuned silent k there))
  by_frames (Some sync) sends =
      whole_give is.receivable.lawful tuned sync.message (frame_events t samples) (sending_event plan sync.message)
      (λ k q w there place over.
      ap (events_of (known t k)) (heard_is is tuned sync sends k q w false there place over))
      (tells_sending sync sends)

  pub sendings_in : flat_map (sync_events_at t samples) (places (plan.link.samples + 1)) ≡ sync_sent plan
  unfolding sync_sent
  sendings_in =
      ap (λ n. flat_map (sync_events_at t samples) (places (n + 1))) (sym tuned.count)
      ∙ events_by_frames t (sync_timed t tuned.alone) samples
      ∙ by_frames plan.sync refl

pub sendings_back : WholeSendingsComeBack
sendings_back width plan samples t is tuned = sendings_in (shows_sync is) tuned
