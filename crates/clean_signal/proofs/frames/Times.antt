-- Where the frames of a stream end and lie, where it has one finger, on the reference path.
use Rattle.clean_signal.proofs.Common.{◌≡◌, ℕ, ◌+◌, ◌≤◌, ◌&&◌, true, [], ◌∷◌, refl, sym, ap, ◌∙◌, arith, subst, max, nat_le, pos, ◌+ℤ◌}
use Rattle.clean_signal.proofs.Common.{unsigned_abs, ◌-ℤ◌, int_le, List, le-leb, leb-true, ints, frame_chips, Finger, Form, frame_end}
use Rattle.clean_signal.proofs.Common.{frame_start, is_in_file, is_within, IsTimed, timed_in, reference_finger, StreamOf, Channel}
use Rattle.rake_finger.specs.Near as near

-- ---- one finger

-- where the frame from sample u on ends
end_at : (u n : ℕ) → max (unsigned_abs ((pos u -ℤ pos 0) +ℤ pos n)) 0 ≡ u + n
end_at u n = grind (arith, ints)

pub end_of_one : (u phase row : ℕ) (form : Form) →
    frame_end (reference_finger phase row ∷ []) form u ≡ u + frame_chips form
end_of_one u phase row form = end_at u (frame_chips form)

-- it lies in the file just where it ends there
ends_within : (u n count : ℕ) → ((int_le (pos 0) (pos u) && int_le ((pos u -ℤ pos 0) +ℤ pos n) (pos count)) && true) ≡
    nat_le (u + n) count
ends_within u n count = grind (arith, ints)

-- ---- a stream with one finger, on the reference path

pub record IsAlone (s : StreamOf Channel) : Type 0 where
  pub phase : ℕ
  pub row : ℕ
  pub fingers : s.fingers ≡ reference_finger phase row ∷ []

pub timed_alone : (count : ℕ) (s : StreamOf Channel) → IsAlone s → IsTimed count s 0
timed_alone count s alone =
    let close : near.AreNear s.fingers = subst near.AreNear (sym alone.fingers) refl in
    let begun : near.all_begun s.first s.fingers ≡ true =
    ap (near.all_begun s.first) alone.fingers ∙ grind (arith, ints) in
    let low : near.low_in s ≡ 0 = rw begun refl in
    subst (λ (n : ℕ). IsTimed count s n) low (timed_in count s close)

-- when frame k ends
abbrev pub ends_at : StreamOf Channel → ℕ → ℕ
ends_at s k = frame_start s k + frame_chips s.form

pub inside_is : (count : ℕ) (s : StreamOf Channel) (k : ℕ) → IsAlone s →
    is_in_file count s k ≡ nat_le (ends_at s k) count
inside_is count s k alone =
    ap (λ (fs : List Finger). is_within count fs s.form (frame_start s k)) alone.fingers ∙
    ends_within (frame_start s k) (frame_chips s.form) count

pub inside_alone : (count : ℕ) (s : StreamOf Channel) (k : ℕ) → IsAlone s → ends_at s k ≤ count →
    is_in_file count s k ≡ true
inside_alone count s k alone h = inside_is count s k alone ∙ le-leb (ends_at s k) count h

pub room_alone : (count : ℕ) (s : StreamOf Channel) (k : ℕ) → IsAlone s → is_in_file count s k ≡ true →
    ends_at s k ≤ count
room_alone count s k alone h = leb-true (ends_at s k) count (sym (inside_is count s k alone) ∙ h)
