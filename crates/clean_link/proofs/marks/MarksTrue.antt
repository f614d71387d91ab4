-- The mark of a clean link has the cell's time and long code.
use Rattle.clean_link.proofs.Common.{◌≡◌, ℕ, suc, ◌+◌, ◌-◌, ◌*◌, ◌/◌, ◌%◌, ◌<◌, ◌==◌, ⊎_elim, Bool, true, false, List, [], ◌∷◌, length, sym}
use Rattle.clean_link.proofs.Common.{refl, ap, ◌∙◌, arith, subst, nat_le, ◌&&◌, Option, Some, None, and_parts, ne_eqb, cases_Bool, places}
use Rattle.clean_link.proofs.Common.{Sample, Width, IsState, after, after-after, IsState-after, Piece, from_last_start, superframes_of, map}
use Rattle.clean_link.proofs.Common.{sync_capsule, SyncFields, IsLawfulPlan, message_of, superframes_a_sending, told_superframes, CellPlan}
use Rattle.clean_link.proofs.Common.{SyncPlan, length-sending, first_of, frames_open, mark, marks_at, marks_of, frame_start, heard_at, Mark}
use Rattle.clean_link.proofs.Common.{with_message, Tuning, sync_stream, sync_bound, MarksAreTrue, IsOnPath, IsTrueMark, first_sync_frame}
use Rattle.clean_link.proofs.Common.{MarksTellTheRate, UnmarkedWithoutSync, ShowsSync, filter, flat_map, nat_lt, is_some, length-map}
use Rattle.clean_link.proofs.Common.{IsMarkedWhereHeard, events_of_channel, sending_event, sync_sent, whole_sendings}
use Rattle.clean_link.proofs.frames.ChannelFrames.{shows_sync}
use Rattle.paging_message.proofs.Pieces.{length-run}
use Rattle.clean_frames.proofs.sendings.Capsules.{IsSentAt, begun, is_at, piece_of, sending_frames}
use Rattle.clean_link.proofs.frames.Times.{frames_begin, sync_timed}
use Rattle.clean_link.proofs.sendings.Order.{first_among, in_file, known, first_there, frames_of, mark_of_all}
use Rattle.clean_link.proofs.sendings.Heard.{ends_sending, heard_is, none_heard, heard_pieces, ends_tells, threefold, ends_there, none_give}
use Rattle.clean_link.proofs.sendings.Heard.{last_frame, whole_give}

-- ---- the mark that a transmission sets
-- which transmission and which of its frames the file's frame k is, where it ends the transmission
pub record EndsAt (plan : CellPlan) (m : SyncFields) (k q w : ℕ) : Type 0 where
  pub place : IsSentAt plan m (first_sync_frame plan) k q w
  pub ends : ends_sending plan m k w ≡ true

-- the state, the time, the pilot and the rate that the message of a transmission tells
pub message_tells : (plan : CellPlan) (m : SyncFields) (q : ℕ) →
    ((message_of plan.cell m q).lc ≡ after plan.cell.lc (98304 * told_superframes plan.cell m q))
    × ((message_of plan.cell m q).time ≡ plan.cell.time + told_superframes plan.cell m q)
    × ((message_of plan.cell m q).pn ≡ plan.cell.pn) × ((message_of plan.cell m q).prat ≡ m.prat)
unfolding message_of
message_tells plan m q = (refl, refl, refl, refl)

-- its long code's state is never 0
lc_some : (plan : CellPlan) (m : SyncFields) (q : ℕ) → IsState plan.cell.lc →
    ((message_of plan.cell m q).lc == 0) ≡ false
lc_some plan m q is =
    let state = IsState-after plan.cell.lc (98304 * told_superframes plan.cell m q) is in
    ne_eqb (message_of plan.cell m q).lc 0 (λ e. omega (arith, e, (message_tells plan m q).0, state.0))

abbrev sent_mark : CellPlan → SyncFields → ℕ → ℕ → Mark
sent_mark plan m q first = record {
  sample = first + 98304 * (superframes_of (sync_capsule plan.cell.check30 (message_of plan.cell m q)) + 4) - 64 *
      (message_of plan.cell m q).pn;
  time = (message_of plan.cell m q).time;
  state = (message_of plan.cell m q).lc;
  pilot = (message_of plan.cell m q).pn;
  prat = (message_of plan.cell m q).prat;
}

pub marks_sent : (plan : CellPlan) (m : SyncFields) (q first : ℕ) → IsState plan.cell.lc → marks_of first
    (with_message (sync_capsule plan.cell.check30 (message_of plan.cell m q))
    (Some (message_of plan.cell m q))) ≡ sent_mark plan m q first ∷ []
marks_sent plan m q first is = rw (lc_some plan m q is) refl

marks_none : (t : Tuning) (samples : List Sample) (k : ℕ) → heard_at t samples k ≡ None → marks_at t samples k ≡ []
unfolding marks_at
marks_none t samples k none = ap (marks_of (frame_start (sync_stream t) (k + 1 - frames_open t samples (k + 1)))) none

-- ---- it is true
at_mark : (start u pn n q : ℕ) → pn < 512 → start + u ≡ 64 * pn + 98304 * (q * n) →
    start + (u + 98304 * (n + 4) - 64 * pn) ≡ 98304 * ((q + 1) * n + 4)
at_mark start u pn n q low begins = omega (arith, begins, low)

-- The mark that a transmission of the sync message sets is true. The transmission begins later than
-- a superframe by the pilot's offset, 64 chips for each PN. The mark takes that offset off again
-- and lies four superframes after the transmission's last one, where the message's time and
-- long-code state are the cell's.
is_true : (width : Width) (plan : CellPlan) (m : SyncFields) (t : Tuning) (k q w : ℕ) →
    IsLawfulPlan width plan → IsOnPath plan t → EndsAt plan m k q w →
    IsTrueMark plan (sent_mark plan m q (frame_start (sync_stream t) (k - w))) (told_superframes plan.cell m q)
is_true width plan m t k q w lawful tuned at =
    let tells = ends_tells plan m k w at.ends in
    let n = superframes_a_sending plan.cell m in
    let u = frame_start (sync_stream t) (k - w) in
    let size : superframes_of (sync_capsule plan.cell.check30 (message_of plan.cell m q)) ≡ n =
    ap (λ (x : ℕ). (x + 92) / 93) (length-sending plan.cell m q) in
    let first = frames_begin plan t (k - w) lawful.pn tuned.phase in
    let frames = threefold q n in
    let begins : plan.link.start + u ≡ 64 * plan.cell.pn + 98304 * (q * n) =
    omega (arith, first, at.place.parts, tells.begun, frames) in
    record {
      place =
          ap (λ (x : ℕ). plan.link.start + (u + 98304 * (x + 4) - 64 * (message_of plan.cell m q).pn))
          size
          ∙ ap (λ (x : ℕ). plan.link.start + (u + 98304 * (n + 4) - 64 * x)) (message_tells plan m q).2
          ∙ at_mark plan.link.start u plan.cell.pn n q lawful.pn begins;
      time = (message_tells plan m q).1;
      pn = (message_tells plan m q).2;
      state = λ chips. ap (λ s. after s chips) (message_tells plan m q).0 ∙
          after-after plan.cell.lc (98304 * told_superframes plan.cell m q) chips;
    }

first_one : (x y : Mark) → first_of (x ∷ []) ≡ Some y → x ≡ y
first_one x y h = cc

no_first : (y : Mark) (R : Type 0) → first_of (let none : List Mark = [] in none) ≡ Some y → R
no_first y R h = absurd (cc)

-- the transmission whose message sets the mark of frame k, and which of its frames that is
record IsOfSending (plan : CellPlan) (m : SyncFields) (t : Tuning) (k : ℕ)
    (set : Mark) : Type 0 where
  sending : ℕ
  frame : ℕ
  ends : EndsAt plan m k sending frame
  same : sent_mark plan m sending (frame_start (sync_stream t) (k - frame)) ≡ set

mark_among : (t : Tuning) (samples : List Sample) (n : ℕ) (m : Mark) → mark t samples n ≡ Some m →
    (k : ℕ) × ((in_file t k ≡ true) × (first_of (marks_at t samples k) ≡ Some m))
unfolding mark
mark_among t samples n m set =
    let p : ℕ → Bool = λ k. in_file t k && nat_le (known t k) n in
    let (k, both) = first_among p (marks_at t samples) (places (sync_bound n)) m set in
    (k, ((and_parts (in_file t k) (nat_le (known t k) n) both.0).0, both.1))

-- ---- the marks of samples that show the frames of the sync channel

module _ {width : Width} {plan : CellPlan} {samples : List Sample} {t : Tuning}
    (is : ShowsSync width plan samples) (tuned : IsOnPath plan t) where
  module _ (sync : SyncPlan) (sends : plan.sync ≡ Some sync) where
    -- the frames of the transmission under way
    frames_open_is : (k q w : ℕ) → in_file t k ≡ true → EndsAt plan sync.message k q w →
        frames_open t samples (k + 1) ≡ w + 1
    unfolding frames_open
    frames_open_is k q w there at =
        let m = sync.message in
        let tells = ends_tells plan m k w at.ends in
        ap (λ (l : List Piece). length (from_last_start l)) (heard_pieces is tuned sync sends k there)
        ∙ ap length (begun plan m (first_sync_frame plan) k q w at.place tells.begun)
        ∙ length-run (piece_of plan m (first_sync_frame plan)) (k - w) (suc w) ∙ omega arith

    -- at the reference sample at which its first frame begins
    marks_are : (k q w : ℕ) → in_file t k ≡ true → EndsAt plan sync.message k q w → marks_at t samples k ≡
        sent_mark plan sync.message q (frame_start (sync_stream t) (k - w)) ∷ []
    unfolding marks_at
    marks_are k q w there at =
        let m = sync.message in
        let first : k + 1 - frames_open t samples (k + 1) ≡ k - w = omega (arith, frames_open_is k q w there at) in
        ap (λ j. marks_of (frame_start (sync_stream t) j) (heard_at t samples k)) first
        ∙ ap (marks_of (frame_start (sync_stream t) (k - w)))
        (heard_is is tuned sync sends k q w true there at.place at.ends)
        ∙ marks_sent plan m q (frame_start (sync_stream t) (k - w)) is.receivable.lawful.lc

    -- A frame that sets a mark ends a transmission, and the mark is that transmission's: the
    -- frame's number, divided by the frames of a transmission, tells which one it lies in, and a
    -- frame that doesn't end its transmission sets none.
    frame_sets : (k : ℕ) (m : Mark) → in_file t k ≡ true →
        first_of (marks_at t samples k) ≡ Some m → IsOfSending plan sync.message t k m
    frame_sets k m there set =
        let q = (first_sync_frame plan + k) / sending_frames plan sync.message in
        let w = (first_sync_frame plan + k) % sending_frames plan sync.message in
        let place : IsSentAt plan sync.message (first_sync_frame plan) k q w =
        is_at plan sync.message (first_sync_frame plan) k in
        ⊎_elim
        (λ (ends : ends_sending plan sync.message k w ≡ true).
        let at : EndsAt plan sync.message k q w = record { place = place; ends = ends } in
        let marks = marks_are k q w there at in
        record {
          sending = q;
          frame = w;
          ends = at;
          same = first_one (sent_mark plan sync.message q (frame_start (sync_stream t) (k - w))) m
              (sym (ap first_of marks) ∙ set);
        })
        (λ (over : ends_sending plan sync.message k w ≡ false).
        let none = marks_none t samples k (heard_is is tuned sync sends k q w false there place over) in
        no_first m _ (sym (ap first_of none) ∙ set))
        (cases_Bool (ends_sending plan sync.message k w))

    -- a frame's mark is true
    frame_true : (k : ℕ) (m : Mark) → in_file t k ≡ true →
        first_of (marks_at t samples k) ≡ Some m → (superframes : ℕ) × IsTrueMark plan m superframes
    frame_true k m there set =
        let sent = frame_sets k m there set in
        let superframes = told_superframes plan.cell sync.message sent.sending in (
          superframes,
          subst (λ x. IsTrueMark plan x superframes) sent.same
              (is_true width plan sync.message t k sent.sending sent.frame is.receivable.lawful tuned sent.ends),
        )

  frame_true_if : (channel : Option SyncPlan) → plan.sync ≡ channel → (k : ℕ) (m : Mark) →
      in_file t k ≡ true → first_of (marks_at t samples k) ≡ Some m → (superframes : ℕ) × IsTrueMark plan m superframes
  frame_true_if None silent k m there set =
      no_first m _ (sym (ap first_of (marks_none t samples k (none_heard is tuned silent k there))) ∙ set)
  frame_true_if (Some sync) sends k m there set = frame_true sync sends k m there set

  pub marks_in : (n : ℕ) (m : Mark) → mark t samples n ≡ Some m → (superframes : ℕ) × IsTrueMark plan m superframes
  marks_in n m set =
      let (k, both) = mark_among t samples n m set in
      frame_true_if plan.sync refl k m both.0 both.1

  -- it tells the paging channels' rate
  pub rate_in : (sync : SyncPlan) (n : ℕ) (m : Mark) → plan.sync ≡ Some sync →
      mark t samples n ≡ Some m → m.prat ≡ sync.message.prat
  rate_in sync n m sends set =
      let (k, both) = mark_among t samples n m set in
      let sent = frame_sets sync sends k m both.0 both.1 in
      ap (λ (x : Mark). x.prat) (sym sent.same) ∙ (message_tells plan sync.message sent.sending).3

  -- and none is set without a sync channel
  pub unmarked_in : (n : ℕ) → plan.sync ≡ None → mark t samples n ≡ None
  unmarked_in n silent =
      no_mark (mark t samples n) refl
    where
      no_mark : (set : Option Mark) → mark t samples n ≡ set → mark t samples n ≡ None
      no_mark None e = e
      no_mark (Some m) e =
          let (k, both) = mark_among t samples n m e in
          no_first m _ (sym (ap first_of (marks_none t samples k (none_heard is tuned silent k both.0))) ∙ both.1)

-- ---- the laws

pub marks_true : MarksAreTrue
marks_true width plan samples t n m is tuned set = marks_in (shows_sync is) tuned n m set

pub marks_rate : MarksTellTheRate
marks_rate width plan samples sync t n m is sends tuned set = rate_in (shows_sync is) tuned sync n m sends set

pub unmarked : UnmarkedWithoutSync
unmarked width plan samples t n is silent tuned = unmarked_in (shows_sync is) tuned n silent

-- ---- the first of them

-- the transmission that sets a mark, the first of these
pub record IsFirstOf (sent : ℕ → Mark) (sendings : List ℕ) (m : Mark) : Type 0 where
  pub sending : ℕ
  pub others : List ℕ
  pub first : sendings ≡ sending ∷ others
  pub same : sent sending ≡ m

first_sets : (sent : ℕ → Mark) (sendings : List ℕ) (m : Mark) → first_of (map sent sendings) ≡ Some m →
    IsFirstOf sent sendings m
first_sets sent [] m set = absurd (cc)
first_sets sent (q ∷ sendings) m set =
    record { sending = q; others = sendings; first = refl; same = first_one (sent q) m set }

none_sets : (sent : ℕ → Mark) (sendings : List ℕ) → first_of (map sent sendings) ≡ None → sendings ≡ []
none_sets sent [] unset = refl
none_sets sent (q ∷ sendings) unset = absurd (cc)

-- ---- of samples that show the frames of the sync channel

module _ {width : Width} {plan : CellPlan} {samples : List Sample} {t : Tuning}
    (is : ShowsSync width plan samples) (tuned : IsOnPath plan t) where
  abbrev marks : List Mark
  marks = flat_map (marks_at t samples) (filter (in_file t) (frames_of t))

  module _ (sync : SyncPlan) (sends : plan.sync ≡ Some sync) where
    -- the mark that each whole transmission sets
    abbrev mark_sent : ℕ → Mark
    mark_sent q =
        sent_mark plan sync.message q
        (frame_start (sync_stream t) (q * sending_frames plan sync.message - first_sync_frame plan))

    -- They are the marks of all frames: a frame that ends a transmission sets that of its message, and in
    -- all other frames nothing is heard.
    marks_whole : marks ≡ map mark_sent (whole_sendings plan sync.message)
    marks_whole =
        let m = sync.message in
        whole_give is.receivable.lawful tuned m (marks_at t samples) mark_sent
        (λ k q w there place over.
        marks_none t samples k (heard_is is tuned sync sends k q w false there place over))
        (λ k q inside.
        let w = last_frame plan m in
        let first : k - w ≡ q * sending_frames plan m - first_sync_frame plan =
        omega (arith, inside.last.parts, inside.begun) in
        marks_are is tuned sync sends k q w inside.there
        (record { place = inside.last; ends = ends_there plan m k w refl inside.begun })
        ∙ ap (λ j. sent_mark plan m q (frame_start (sync_stream t) j) ∷ []) first)

    -- the mark is that of the first whole transmission, and where there is none it isn't set
    pub first_in : (m : Mark) → mark t samples t.count ≡ Some m →
        IsFirstOf mark_sent (whole_sendings plan sync.message) m
    first_in m set =
        first_sets mark_sent (whole_sendings plan sync.message) m
        (sym (ap first_of marks_whole) ∙ sym (mark_of_all t (sync_timed t tuned.alone) samples) ∙ set)

    pub unset_in : mark t samples t.count ≡ None → whole_sendings plan sync.message ≡ []
    unset_in unset =
        none_sets mark_sent (whole_sendings plan sync.message)
        (sym (ap first_of marks_whole) ∙ sym (mark_of_all t (sync_timed t tuned.alone) samples) ∙ unset)

  -- there is one for each
  marks_count : (channel : Option SyncPlan) → plan.sync ≡ channel →
      length marks ≡ length (events_of_channel plan channel)
  marks_count None silent =
      ap length (none_give t (marks_at t samples)
      (λ k there. marks_none t samples k (none_heard is tuned silent k there)))
  marks_count (Some sync) sends =
      let sendings = whole_sendings plan sync.message in
      ap length (marks_whole sync sends)
      ∙ length-map sendings (mark_sent sync sends)
      ∙ sym (length-map sendings (sending_event plan sync.message))

  pub marked_in : is_some (mark t samples plan.link.samples) ≡ nat_lt 0 (length (sync_sent plan))
  unfolding sync_sent
  marked_in =
      ap (λ n. is_some (mark t samples n)) (sym tuned.count)
      ∙ ap is_some (mark_of_all t (sync_timed t tuned.alone) samples)
      ∙ first_there marks
      ∙ ap (nat_lt 0) (marks_count plan.sync refl)

pub marked_where_heard : IsMarkedWhereHeard
marked_where_heard width plan samples t is tuned = marked_in (shows_sync is) tuned
