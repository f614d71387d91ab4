-- The ends of a channel's frames.
use Rattle.std.specs.Prelude.{ℕ, ◌+◌, ◌*◌, ◌<◌, ◌≤◌, ◌≡◌, ◌&&◌, nat_le}
use Rattle.rake_finger.specs.Soft.{frame_chips}
use Rattle.rake_finger.specs.Streams.{StreamOf, frame_start, frame_end, is_in_file}

-- the number of samples at which frame k ends
unfoldable pub stream_end : {C : Type 0} → StreamOf C → ℕ → ℕ
stream_end s k = frame_end s.fingers s.form (frame_start s k)

-- From frame `low` on, the frames in the file follow one another at a constant distance.
pub record IsTimed {C : Type 0} (count : ℕ) (s : StreamOf C) (low : ℕ) : Type 0 where
  pub inside : (k : ℕ) → is_in_file count s k ≡ (nat_le low k && nat_le (stream_end s k) count)
  pub step : (k : ℕ) → stream_end s (k + 1) ≡ stream_end s k + frame_chips s.form
  pub some : 0 < frame_chips s.form
  pub early : (k : ℕ) → frame_chips s.form * (k + 1) ≤ stream_end s k
