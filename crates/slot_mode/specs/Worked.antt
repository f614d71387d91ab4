-- Worked values, which the checker computes.
use Rattle.std.specs.Prelude.{◌≡◌, refl, true, false, [], ◌∷◌, map}
use Rattle.slot_mode.specs.Slots.{slot_of, slot_period, is_monitored, next_monitored}
use Rattle.slot_mode.specs.Frames.{slot_span_first, span_end}

slots : map slot_of (0 ∷ 1 ∷ 0x12345678 ∷ 0xffffffff ∷ []) ≡ 0 ∷ 668 ∷ 956 ∷ 1877 ∷ []
slots = refl

-- the halves aren't interchangeable: the lower one enters the hash twice
halves : map slot_of (0x00010000 ∷ 0x56781234 ∷ []) ≡ 1265 ∷ 767 ∷ []
halves = refl

periods : map slot_period (0 ∷ 1 ∷ 7 ∷ []) ≡ 16 ∷ 32 ∷ 2048 ∷ []
periods = refl

not_monitored : is_monitored 1007 0 0 ≡ false
not_monitored = refl

monitored : is_monitored 1008 0 0 ≡ true
monitored = refl

-- 1008 is an odd multiple of 16
not_in_two : is_monitored 1008 0 1 ≡ false
not_in_two = refl

-- 668 and 1004 are both 12 modulo 16
next : next_monitored 1003 1 0 ≡ 1004
next = refl

itself : next_monitored 1004 1 0 ≡ 1004
itself = refl

after_that : next_monitored 1005 1 0 ≡ 1020
after_that = refl

firsts : map slot_span_first (0 ∷ 1 ∷ 2 ∷ 3 ∷ []) ≡ 0 ∷ 0 ∷ 1 ∷ 2 ∷ []
firsts = refl

ends : map span_end (0 ∷ 1 ∷ 2 ∷ 3 ∷ []) ≡ 2 ∷ 3 ∷ 4 ∷ 4 ∷ []
ends = refl
