-- The standard's tables of search windows and drop timers (TIA/EIA-95-B, 6.6.6.2), and the ratios
-- of thresholds in half decibels.
use Rattle.std.specs.Prelude.{ℕ, List, ◌∷◌, [], get_or}

abbrev pub drop_timers : List ℕ
drop_timers =
    100 ∷ 1000 ∷ 2000 ∷ 4000 ∷ 6000 ∷ 9000 ∷ 13000 ∷ 19000 ∷ 27000 ∷ 39000 ∷ 55000 ∷ 79000 ∷ 112000
    ∷ 159000 ∷ 225000 ∷ 319000 ∷ []

-- the time that a timer runs, in milliseconds (T_TDROP)
abbrev pub drop_timer_ms : ℕ → ℕ
drop_timer_ms k = get_or drop_timers k 0

abbrev pub search_windows : List ℕ
search_windows =
    4 ∷ 6 ∷ 8 ∷ 10 ∷ 14 ∷ 20 ∷ 28 ∷ 40 ∷ 60 ∷ 80 ∷ 100 ∷ 130 ∷ 160 ∷ 226 ∷ 320 ∷ 452 ∷ []

-- the width of a search window, in chips (SRCH_WIN_A, SRCH_WIN_N)
abbrev pub search_window_chips : ℕ → ℕ
search_window_chips k = get_or search_windows k 0

abbrev pub ratios : List ℕ
ratios =
    1000000 ∷ 891251 ∷ 794328 ∷ 707946 ∷ 630957 ∷ 562341 ∷ 501187 ∷ 446684 ∷ 398107 ∷ 354813
    ∷ 316228 ∷ 281838 ∷ 251189 ∷ 223872 ∷ 199526 ∷ 177828 ∷ 158489 ∷ 141254 ∷ 125893 ∷ 112202
    ∷ 100000 ∷ 89125 ∷ 79433 ∷ 70795 ∷ 63096 ∷ 56234 ∷ 50119 ∷ 44668 ∷ 39811 ∷ 35481
    ∷ 31623 ∷ 28184 ∷ 25119 ∷ 22387 ∷ 19953 ∷ 17783 ∷ 15849 ∷ 14125 ∷ 12589 ∷ 11220
    ∷ 10000 ∷ 8913 ∷ 7943 ∷ 7079 ∷ 6310 ∷ 5623 ∷ 5012 ∷ 4467 ∷ 3981 ∷ 3548
    ∷ 3162 ∷ 2818 ∷ 2512 ∷ 2239 ∷ 1995 ∷ 1778 ∷ 1585 ∷ 1413 ∷ 1259 ∷ 1122
    ∷ 1000 ∷ 891 ∷ 794 ∷ 708 ∷ []

-- the ratio k half decibels below 0 dB, in millionths (T_ADD, T_DROP, T_COMP)
abbrev pub ratio : ℕ → ℕ
ratio k = get_or ratios k 0
