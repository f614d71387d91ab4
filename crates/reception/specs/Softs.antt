-- The soft values of the last three frames.
use Rattle.std.specs.Prelude.{ℕ, ◌*◌, ◌-◌, ◌^◌, ◌≤◌, List, ℤ, drop, sum_by, unsigned_abs}

-- a bound on the sum of a frame's absolute values, over three fingers
abbrev pub frame_most : ℕ
frame_most = 9 * 2 ^ 57

-- the soft values of the last `frames` frames, of `symbols` symbols each, at the end of 1,152
-- places
abbrev pub last_softs : ℕ → ℕ → List ℤ → List ℤ
last_softs symbols frames softs = drop (1152 - symbols * frames) softs

-- the absolute values of the last one, two or three frames add up to at most that many `frame_most`
pub record AreSmall (symbols : ℕ) (softs : List ℤ) : Type 0 where
  pub one : sum_by unsigned_abs (last_softs symbols 1 softs) ≤ frame_most
  pub two : sum_by unsigned_abs (last_softs symbols 2 softs) ≤ 2 * frame_most
  pub three : sum_by unsigned_abs (last_softs symbols 3 softs) ≤ 3 * frame_most
