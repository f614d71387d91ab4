-- The progress of a receiver through the frames of a channel.
use Rattle.std.specs.Prelude.{◌≡◌, ◌⊎◌, ℕ, ◌+◌, ◌<◌, ◌≤◌, true}
use Rattle.rake_finger.specs.Streams.{StreamOf, is_in_file, known_at}
use Rattle.rake_finger.specs.Timing.{stream_end}

-- After n samples, the frames in the file from `low` on and before `next` have been decoded. The
-- soft values of those before `have` are known. Frame `have` ends at n or later.
pub record IsReached {C : Type 0} (count : ℕ) (s : StreamOf C) (low next have n : ℕ) : Type 0 where
  pub low_next : low ≤ next
  pub next_have : next ≤ have
  pub have_most : have ≤ next + 2
  pub within : n ≤ count
  pub ended : (k : ℕ) → low ≤ k → k < have → stream_end s k ≤ n
  pub following : n ≤ stream_end s have
  pub begun : s.waits ≡ true → next ≡ have → (have ≡ low) ⊎ (count < stream_end s have)
  pub late : is_in_file count s next ≡ true → n ≤ known_at count s next
