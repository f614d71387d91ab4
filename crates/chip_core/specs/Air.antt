-- The lengths of the air interface that several crates' definitions use, and a bound that several
-- share.
use Rattle.std.specs.Prelude.{ℕ, ◌≤◌}

-- the number of chips in a superframe of 80 ms (TIA/EIA-95-B, 7.7.1.2)
abbrev pub superframe_chips : ℕ
superframe_chips = 98304

-- the number of chips in a 20 ms frame of a paging or traffic channel (7.1.3.4, 7.1.3.5)
abbrev pub data_frame_chips : ℕ
data_frame_chips = 24576

-- the delay of a traffic channel's frames for each step of its FRAME_OFFSET, in chips (7.1.3.5.1)
abbrev pub frame_offset_chips : ℕ
frame_offset_chips = 1536

-- half the widest search window, which has 452 chips (6.6.6.2.1)
abbrev pub half_window_chips : ℕ
half_window_chips = 226

-- the lawful numbers of codewords in a list
abbrev pub IsListLength : ℕ → Type 0
IsListLength k = (1 ≤ k) × (k ≤ 16)
