-- Channels that are sent together, and one of them as a stream receives it over the cell's path.
use Rattle.clean_signal.specs.Common.{Finger, Form, Carrier, level, phase_at, CellPlan, places, xor}
use Rattle.clean_signal.specs.Common.{zip_with, Sample, sent, shape_of, size, Kind, Codeword, Free}
use Rattle.clean_signal.specs.Common.{IsAllowed, Channel, score, sending, bits_before, Scrambles}
use Rattle.clean_signal.specs.Common.{continued_symbols, frame_softs, span_first, span_frames, norm}
use Rattle.clean_signal.specs.Common.{StreamOf}
use Rattle.std.specs.Prelude.{ℕ, ◌+◌, ◌*◌, ◌%◌, ◌<◌, ◌≤◌, ◌≡◌, ◌≢◌, ◌==◌, if◌then◌else◌, All, List}
use Rattle.std.specs.Prelude.{[], ◌∷◌, ℤ, pos, ◌+ℤ◌, Bool, length, ◌<ℤ◌}
use Rattle.std.specs.List.{flat_map}
use Rattle.rake_finger.specs.Soft as soft

-- ---- channels that can be separated

-- The frames and symbols of the channel begin where its row's chip 0 falls, so that it has one
-- level over each 64 chips from there on.
pub record IsAligned (c : Carrier) : Type 0 where
  pub row : c.row < 64
  pub first : c.first % 64 ≡ 0
  pub frame : c.form.frame_chips % 64 ≡ 0
  pub symbol : c.form.symbol_chips % 64 ≡ 0

-- no two channels have the same row
abbrev pub HaveOwnRows : List Carrier → Type 0
HaveOwnRows [] = Unit {0}
HaveOwnRows (c ∷ cs) = All (λ (d : Carrier). d.row ≢ c.row) cs × HaveOwnRows cs

-- the sum of the levels of a row's channels at a local chip
abbrev pub row_level : ℕ → ℕ → Carrier → ℤ
row_level row chip c = if row == c.row then level chip c else pos 0

abbrev pub level_at : ℕ → List Carrier → ℕ → ℤ
level_at row [] chip = pos 0
level_at row (c ∷ cs) chip = row_level row chip c +ℤ level_at row cs chip

-- Channels that a handset can separate. Row 0 is the pilot's, which has this gain from local chip 0
-- on.
pub record CarriersAreApart (gain : ℕ) (cs : List Carrier) : Type 0 where
  pub aligned : All IsAligned cs
  pub own_rows : HaveOwnRows cs
  pub pilot : (chip : ℕ) → level_at 0 cs chip ≡ pos gain

-- ---- one of them, as it is received

-- the finger on a path of this phase, for a row
abbrev pub reference_finger : ℕ → ℕ → Finger
reference_finger phase row = record { phase = phase; delta = pos 0; row = row }

-- the finger on the path that the cell's signal takes
abbrev pub path_finger : CellPlan → ℕ → Finger
path_finger plan row = reference_finger (phase_at plan plan.link.start) row

-- A frame that begins at sample u lies in the file, and begins where the rows' chip 0 falls.
pub record IsFrameAt (plan : CellPlan) (form : Form) (u : ℕ) : Type 0 where
  pub room : u + soft.frame_chips form ≤ plan.link.samples
  pub aligned : (plan.link.start + u) % 64 ≡ 0

-- A frame that begins at sample u lies in the file, and is frame `frame` of a channel whose frames
-- and symbols are as long as those of the form.
pub record IsFrameOf (plan : CellPlan) (c : Carrier) (form : Form) (u frame : ℕ) : Type 0 where
  pub room : u + soft.frame_chips form ≤ plan.link.samples
  pub frame_long : c.form.frame_chips ≡ soft.frame_chips form
  pub symbol_long : c.form.symbol_chips ≡ soft.symbol_chips form
  pub begins : plan.link.start + u ≡ c.first + soft.frame_chips form * frame

-- A stream with one finger that receives a channel of the cell: the finger is on the path and has
-- the channel's row, frames and symbols are as long as the channel's, and frame 0 is the channel's
-- frame `base`.
pub record IsHeardBy (plan : CellPlan) (c : Carrier) (s : StreamOf Channel)
    (base : ℕ) : Type 0 where
  pub alone : s.fingers ≡ path_finger plan c.row ∷ []
  pub frame_long : c.form.frame_chips ≡ soft.frame_chips s.form
  pub symbol_long : c.form.symbol_chips ≡ soft.symbol_chips s.form
  pub begins : plan.link.start + s.first ≡ c.first + soft.frame_chips s.form * base

-- the strength of a channel's soft values: the product of 4, the link's squared absolute value, the
-- gains of the pilot and the channel, and the numbers of chips in a window and in a symbol
abbrev pub soft_strength : CellPlan → Form → ℕ → ℕ
soft_strength plan form gain =
    4 * norm plan.link.factor * (plan.pilot.gain * gain) *
    (soft.window_chips form * soft.symbol_chips form)

-- ---- codewords

-- symbols as they are sent under a frame's scrambling bits, if there are any (TIA/EIA-95-B,
-- 7.1.3.1.6)
abbrev pub scrambled_with : List Bool → List Bool → List Bool
scrambled_with [] symbols = symbols
scrambled_with (b ∷ bits) symbols = zip_with xor symbols (b ∷ bits)

-- Frames of `symbols` symbols, filled by the code symbols of at least eight bits; each code symbol
-- is sent equally often.
pub record IsWholeChannel (c : Channel) (symbols : ℕ) : Type 0 where
  pub kind : Kind
  pub shape : c.shape ≡ shape_of kind
  pub count : size c.shape ≡ symbols
  pub fills : 2 * c.bits * c.repeats ≡ size c.shape
  pub enough : 8 ≤ c.bits

-- From frame `base` on, the symbols of a channel's frames are those of a source's frames of bits,
-- whose encoder continues from frame to frame. Their order and scrambling are those by which a
-- stream reads them.
pub record AreReadBy (c : Carrier) (s : StreamOf Channel) (bits_of : ℕ → List Bool)
    (base : ℕ) : Type 0 where
  pub whole : IsWholeChannel s.channel (soft.symbols s.form)
  pub each : (k : ℕ) → length (bits_of k) ≡ s.channel.bits
  pub scrambles : (k : ℕ) → Scrambles (s.scrambling k) (soft.symbols s.form)
  pub sent : (k : ℕ) →
      c.symbols (base + k) ≡
      scrambled_with (s.scrambling k)
      (sent s.channel.shape s.channel.repeats (continued_symbols bits_of (base + k)))

-- The codeword of n frames of a source: the encoder's eight bits before the first frame, and the
-- bits of the frames.
abbrev pub span_codeword : (ℕ → List Bool) → ℕ → ℕ → Codeword
span_codeword bits_of first frames = record {
  start = bits_before bits_of first;
  bits = flat_map (λ j. bits_of (first + j)) (places frames);
}

-- the soft values of the span by which frame k is decoded
abbrev pub span_frame_softs : ℕ → List Sample → StreamOf Channel → ℕ → List ℤ
span_frame_softs count samples s k =
    flat_map (λ j. frame_softs samples s (span_first count s k + j))
    (places (span_frames count s k))

-- the score of a codeword with these soft values
abbrev pub span_score : ℕ → List Sample → StreamOf Channel → ℕ → Codeword → ℤ
span_score count samples s k w =
    score (span_frame_softs count samples s k) (sending s.channel (span_frames count s k)) w

-- A codeword of the span's length, with its eight start bits, such that every other one has a
-- smaller score.
pub record IsOnlyBest (count : ℕ) (samples : List Sample) (s : StreamOf Channel) (k : ℕ)
    (best : Codeword) : Type 0 where
  pub allowed : IsAllowed Free (s.channel.bits * span_frames count s k) best
  pub lesser : (w : Codeword) → IsAllowed Free (s.channel.bits * span_frames count s k) w →
      w ≢ best →
      span_score count samples s k w <ℤ span_score count samples s k best
