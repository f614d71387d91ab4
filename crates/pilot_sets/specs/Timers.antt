-- Strong pilots, and timers that run out (after TIA/EIA-95-B, 6.6.6.2).
use Rattle.pilot_sets.specs.Common.{Thresholds}
use Rattle.std.specs.Prelude.{ℕ, ◌-◌, ◌*◌, Bool, false, cond, ◌&&◌, nat_lt, nat_le, Option, Some}
use Rattle.std.specs.Prelude.{None, unwrap_or}
use Rattle.pilot_sets.specs.Tables.{drop_timer_ms, ratio}

-- whether a pilot of this energy is strong for threshold k, given the power of the samples
abbrev pub is_strong : ℕ → ℕ → ℕ → Bool
is_strong k power energy = nat_lt 0 energy && nat_le (1024 * ratio k * power) (1000000 * energy)

-- a running timer has expired when it has run for the drop time; a moment lasts 80 milliseconds
abbrev pub is_expired : Thresholds → ℕ → Option ℕ → Bool
is_expired t time None = false
is_expired t time (Some start) = nat_le (drop_timer_ms t.t_tdrop) (80 * (time - start))

-- a timer after a moment: it stops if its pilot is strong, and otherwise starts or continues
abbrev pub timer_after : Bool → ℕ → Option ℕ → Option ℕ
timer_after strong time timer = cond strong None (Some (unwrap_or timer time))
