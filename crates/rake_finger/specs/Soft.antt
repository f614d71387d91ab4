-- Soft values of fingers: the sum of a symbol's chips, turned by the pilot.
use Rattle.rake_finger.specs.Common.{sign, places, times, conjugate, sum_of, total, Sample, walsh}
use Rattle.rake_finger.specs.Common.{Form}
use Rattle.std.specs.Prelude.{ℕ, suc, ◌+◌, ◌*◌, ◌/◌, ◌%◌, ◌^◌, List, [], ◌∷◌, map, take, drop, ℤ}
use Rattle.std.specs.Prelude.{pos, ◌-ℤ◌, unsigned_abs}
use Rattle.chip_core.specs.declared.sample.Pair.{Pair}
use Rattle.short_code.specs.Despread.{despread}
use Rattle.rake_finger.specs.declared.finger.Finger.{Finger}
use Rattle.rake_finger.specs.declared.form.Form.TheVariants.{Sync, Data}

-- how a frame is cut: chips per symbol, chips per aligned window, whose pilot turns its symbols,
-- and symbols per frame
abbrev pub symbol_chips : Form → ℕ
symbol_chips Sync = 256
symbol_chips Data = 64

abbrev pub window_chips : Form → ℕ
window_chips Sync = 1024
window_chips Data = 1536

abbrev pub symbols : Form → ℕ
symbols Sync = 128
symbols Data = 384

abbrev pub frame_chips : Form → ℕ
frame_chips form = symbol_chips form * symbols form

-- windows per frame, and symbols per window
abbrev pub windows : Form → ℕ
windows Sync = 32
windows Data = 16

abbrev pub window_symbols : Form → ℕ
window_symbols Sync = 4
window_symbols Data = 24

-- the sample at which the finger reads what lies at reference sample u
abbrev pub finger_place : Finger → ℕ → ℕ
finger_place finger u = unsigned_abs (pos u -ℤ finger.delta)

-- despread samples times the Walsh row, whose chip k falls on the first of them
abbrev pub covered_from : ℕ → ℕ → List Pair → List Pair
covered_from row k [] = []
covered_from row k (s ∷ samples) =
    times (record { i = sign (walsh row (k % 64)); q = pos 0 }) s ∷ covered_from row (suc k) samples

-- `count` samples from a place on, despread by the code whose chip at this phase falls on sample 0
abbrev pub despread_at : List Sample → ℕ → ℕ → ℕ → List Pair
despread_at samples phase place count = despread (phase + place) (take count (drop place samples))

-- the sum of a finger's pilot over window w of the frame that begins at reference sample u
unfoldable pub pilot_sum : List Sample → Finger → Form → ℕ → ℕ → Pair
pilot_sum samples finger form u w =
    sum_of (despread_at samples finger.phase (finger_place finger u + window_chips form * w)
    (window_chips form))

-- the sum of a finger's Walsh row over symbol j, whose first chip meets the row's chip 0
unfoldable pub symbol_sum : List Sample → Finger → Form → ℕ → ℕ → Pair
symbol_sum samples finger form u j =
    sum_of (covered_from finger.row 0
    (despread_at samples finger.phase (finger_place finger u + symbol_chips form * j)
    (symbol_chips form)))

-- the real part of the conjugate of one number times another
abbrev pub turned_part : Pair → Pair → ℤ
turned_part pilot symbol = (times (conjugate pilot) symbol).i

-- the raw soft value of symbol j of the frame that begins at reference sample u
unfoldable pub soft : List Sample → Finger → Form → ℕ → ℕ → ℤ
soft samples finger form u j =
    turned_part (pilot_sum samples finger form u (symbol_chips form * j / window_chips form))
    (symbol_sum samples finger form u j)

-- the sum over the fingers, for each symbol of the frame
unfoldable pub softs : List Sample → List Finger → Form → ℕ → List ℤ
softs samples fingers form u =
    map (λ j. total (map (λ f. soft samples f form u j) fingers)) (places (symbols form))

-- a bound on the absolute value of a finger's soft value
abbrev pub soft_bound : Form → ℕ
soft_bound Sync = 2 ^ 51
soft_bound Data = 2 ^ 50
