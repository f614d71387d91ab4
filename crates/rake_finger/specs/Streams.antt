-- The places of a channel's frames in a file, and what they are decoded from.
use Rattle.rake_finger.specs.Common.{places, Sample, Form}
use Rattle.std.specs.Prelude.{ℕ, zero, suc, ◌+◌, ◌-◌, ◌*◌, Bool, if◌then◌else◌, ◌==◌, ◌&&◌, List, ℤ}
use Rattle.std.specs.Prelude.{[], ◌∷◌, filter, max, pos, ◌+ℤ◌, ◌-ℤ◌, unsigned_abs, nat_le, int_le}
use Rattle.std.specs.List.{flat_map, list_all}
use Rattle.rake_finger.specs.Soft.{frame_chips, softs}
use Rattle.rake_finger.specs.declared.finger.Finger.{Finger}
use Rattle.rake_finger.specs.Scrambled.{unscrambled}

-- the number of samples up to and including the finger's last sample of the frame that begins at
-- reference sample u
abbrev pub finger_end : Form → ℕ → Finger → ℕ
finger_end form u f = unsigned_abs ((pos u -ℤ f.delta) +ℤ pos (frame_chips form))

-- the number of samples up to and including the last of all fingers' samples of that frame
abbrev pub frame_end : List Finger → Form → ℕ → ℕ
frame_end [] form u = 0
frame_end (f ∷ fingers) form u = max (finger_end form u f) (frame_end fingers form u)

-- the frame's samples lie, for each finger, among the first n
abbrev pub is_within : ℕ → List Finger → Form → ℕ → Bool
is_within n fingers form u =
    list_all
    (λ (f : Finger).
    int_le f.delta (pos u) && int_le ((pos u -ℤ f.delta) +ℤ pos (frame_chips form)) (pos n))
    fingers

-- A channel whose frames follow one another from reference sample `first` on, as fingers receive
-- it. The frames of a sync or paging channel wait: each is decoded with the frame after it.
-- `channel` specifies how soft values are decoded; its type does not matter here.
pub record StreamOf (C : Type 0) : Type 0 where
  pub channel : C
  pub form : Form
  pub fingers : List Finger
  pub first : ℕ
  pub scrambling : ℕ → List Bool  -- of a frame: a bit a symbol, or none where nothing is scrambled
  pub waits : Bool

abbrev pub frame_start : {C : Type 0} → StreamOf C → ℕ → ℕ
frame_start s k = s.first + frame_chips s.form * k

-- whether frame k lies in a file of `count` samples
abbrev pub is_in_file : {C : Type 0} → ℕ → StreamOf C → ℕ → Bool
is_in_file count s k = is_within count s.fingers s.form (frame_start s k)

-- The span: a frame is decoded with the frame before it and the frame after it, if these are in the
-- file.
abbrev pub span_first : {C : Type 0} → ℕ → StreamOf C → ℕ → ℕ
span_first count s zero = 0
span_first count s (suc k) = if is_in_file count s k then k else suc k

abbrev pub span_frames : {C : Type 0} → ℕ → StreamOf C → ℕ → ℕ
span_frames count s k = (if is_in_file count s (k + 1) then k + 2 else k + 1) - span_first count s k

-- the number of samples at which frame k is known: the end of its span, or its own end if it does
-- not wait
abbrev pub known_at : {C : Type 0} → ℕ → StreamOf C → ℕ → ℕ
known_at count s k =
    frame_end s.fingers s.form
    (frame_start s (if s.waits && is_in_file count s (k + 1) then k + 1 else k))

abbrev pub frame_softs : {C : Type 0} → List Sample → StreamOf C → ℕ → List ℤ
frame_softs samples s k =
    unscrambled (s.scrambling k) (softs samples s.fingers s.form (frame_start s k))

-- the soft values of the frames of frame k's span, one after another
abbrev pub span_softs : {C : Type 0} → ℕ → List Sample → StreamOf C → ℕ → List ℤ
span_softs count samples s k =
    let first = span_first count s k in
    flat_map (λ j. frame_softs samples s (first + j)) (places (span_frames count s k))

-- the frames that become known when exactly n samples have been taken; `bound` is a number of
-- frames that is large enough
abbrev pub known_now : {C : Type 0} → ℕ → StreamOf C → ℕ → ℕ → List ℕ
known_now count s n bound =
    filter (λ k. is_in_file count s k && known_at count s k == n) (places bound)

-- the frames that are known within n samples
abbrev pub known_by : {C : Type 0} → ℕ → StreamOf C → ℕ → ℕ → List ℕ
known_by count s n bound =
    filter (λ k. is_in_file count s k && nat_le (known_at count s k) n) (places bound)
