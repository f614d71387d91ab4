-- When the frames of a stream are known, where it has one finger, on the reference path.
use Rattle.clean_link.proofs.Common.{◌≡◌, ℕ, ◌+◌, ◌≤◌, ◌&&◌, Bool, true, false, [], ◌∷◌, refl, ap, ◌∙◌, arith, nat_le, pos, ◌+ℤ◌, List, ◌-◌}
use Rattle.clean_link.proofs.Common.{if◌then◌else◌, frame_chips, Finger, Stream, frame_end, frame_start, is_in_file, known_at, IsTimed, ◌*◌}
use Rattle.clean_link.proofs.Common.{heard_after, ◌/◌, ◌%◌, ◌<◌, ℤ, phase_at, CellPlan, Tuning, fingers_of, modulo_code, sync_stream, Mark}
use Rattle.clean_link.proofs.Common.{first_sync_frame, paging_stream}
use Rattle.clean_signal.proofs.frames.Times.{IsAlone, end_of_one, ends_at, inside_alone, inside_is, room_alone, timed_alone}

-- ---- a stream with one finger, on the reference path

next_ends : (s : Stream) (k : ℕ) → ends_at s (k + 1) ≡ ends_at s k + frame_chips s.form
next_ends s k = omega arith

known_if : (s : Stream) (k : ℕ) (next : Bool) → IsAlone s →
    frame_end s.fingers s.form (frame_start s (if next then k + 1 else k)) ≡
    (if next then ends_at s k + frame_chips s.form else ends_at s k)
known_if s k true alone =
    ap (λ (fs : List Finger). frame_end fs s.form (frame_start s (k + 1))) alone.fingers ∙
    end_of_one (frame_start s (k + 1)) alone.phase alone.row s.form ∙ next_ends s k
known_if s k false alone =
    ap (λ (fs : List Finger). frame_end fs s.form (frame_start s k)) alone.fingers ∙
    end_of_one (frame_start s k) alone.phase alone.row s.form

-- when it is known, where it waits
pub known_alone : (count : ℕ) (s : Stream) (k : ℕ) → IsAlone s → s.waits ≡ true →
    known_at count s k ≡ heard_after (frame_chips s.form) count (ends_at s k)
known_alone count s k alone waits =
    let inside = is_in_file count s (k + 1) in
    let next : (s.waits && inside) ≡ nat_le (ends_at s k + frame_chips s.form) count =
    ap (λ (w : Bool). w && inside) waits
    ∙ inside_is count s (k + 1) alone ∙ ap (λ (n : ℕ). nat_le n count) (next_ends s k) in
    ap (λ (b : Bool). frame_end s.fingers s.form (frame_start s (if b then k + 1 else k))) next
    ∙ known_if s k (nat_le (ends_at s k + frame_chips s.form) count) alone

-- and where it doesn't
pub known_at_once : (count : ℕ) (s : Stream) (k : ℕ) → IsAlone s → s.waits ≡ false → known_at count s k ≡ ends_at s k
known_at_once count s k alone waits =
    ap
    (λ (w : Bool). frame_end s.fingers s.form
    (frame_start s (if w && is_in_file count s (k + 1) then k + 1 else k))) waits
    ∙ known_if s k false alone

-- ---- one finger

abbrev pub one_path : List ℤ
one_path = pos 0 ∷ []

sync_alone : (t : Tuning) → t.deltas ≡ one_path → IsAlone (sync_stream t)
sync_alone t alone = record {
  phase = modulo_code (pos t.phase +ℤ pos 0);
  row = 32;
  fingers = ap (fingers_of 32 t.phase) alone;
}

pub sync_timed : (t : Tuning) → t.deltas ≡ one_path → IsTimed t.count (sync_stream t) 0
sync_timed t alone = timed_alone t.count (sync_stream t) (sync_alone t alone)

-- the number of samples at which frame k ends
abbrev pub end_of_frame : Tuning → ℕ → ℕ
end_of_frame t k = (32768 - t.phase) % 32768 + 32768 * (k + 1)

pub in_file_from : (t : Tuning) (k : ℕ) → t.deltas ≡ one_path → end_of_frame t k ≤ t.count →
    is_in_file t.count (sync_stream t) k ≡ true
in_file_from t k alone h = inside_alone t.count (sync_stream t) k (sync_alone t alone) (omega (arith, h))

pub in_file_to : (t : Tuning) (k : ℕ) → t.deltas ≡ one_path →
    is_in_file t.count (sync_stream t) k ≡ true → end_of_frame t k ≤ t.count
in_file_to t k alone h = omega (arith, room_alone t.count (sync_stream t) k (sync_alone t alone) h)

pub known_is : (t : Tuning) (k : ℕ) → t.deltas ≡ one_path →
    known_at t.count (sync_stream t) k ≡ heard_after 32768 t.count (end_of_frame t k)
known_is t k alone =
    known_alone t.count (sync_stream t) k (sync_alone t alone) refl ∙
    ap (heard_after 32768 t.count) (omega arith)

-- ---- the cell's frames

begins_at : (start phase pn j : ℕ) → pn < 512 → phase ≡ (start + 32768 - 64 * pn) % 32768 →
    start + ((32768 - phase) % 32768 + 32768 * j) ≡
    64 * pn + 32768 * ((start + (32768 - phase) % 32768 - 64 * pn) / 32768 + j)
begins_at start phase pn j low is = omega arith

-- the local chip at which frame j begins
pub frames_begin : (plan : CellPlan) (t : Tuning) (j : ℕ) → plan.cell.pn < 512 →
    t.phase ≡ phase_at plan plan.link.start → plan.link.start + ((32768 - t.phase) % 32768 + 32768 * j) ≡
    64 * plan.cell.pn + 32768 * (first_sync_frame plan + j)
frames_begin plan t j low is = rw is (begins_at plan.link.start (phase_at plan plan.link.start) plan.cell.pn j low refl)

-- ---- a paging channel

-- the number of samples at which frame k ends
abbrev pub end_after : Mark → ℕ → ℕ
end_after m k = m.sample + 24576 * (k + 1)

module _ (t : Tuning) (channel : ℕ) (m : Mark) (alone : t.deltas ≡ one_path) where
  pub paging_alone : IsAlone (paging_stream t channel m)
  paging_alone = record {
    phase = modulo_code (pos t.phase +ℤ pos 0);
    row = channel;
    fingers = ap (fingers_of channel t.phase) alone;
  }

  pub paging_timed : IsTimed t.count (paging_stream t channel m) 0
  paging_timed = timed_alone t.count (paging_stream t channel m) paging_alone

  pub paging_file_from : (k : ℕ) → end_after m k ≤ t.count → is_in_file t.count (paging_stream t channel m) k ≡ true
  paging_file_from k h = inside_alone t.count (paging_stream t channel m) k paging_alone (omega (arith, h))

  pub paging_file_to : (k : ℕ) → is_in_file t.count (paging_stream t channel m) k ≡ true → end_after m k ≤ t.count
  paging_file_to k h = omega (arith, room_alone t.count (paging_stream t channel m) k paging_alone h)

  pub paging_known_is : (k : ℕ) →
      known_at t.count (paging_stream t channel m) k ≡ heard_after 24576 t.count (end_after m k)
  paging_known_is k =
      known_alone t.count (paging_stream t channel m) k paging_alone refl ∙
      ap (heard_after 24576 t.count) (omega arith)
