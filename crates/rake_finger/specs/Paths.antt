-- Fingers on the paths near a phase.
use Rattle.std.specs.Prelude.{ℕ, List, map, ℤ, pos, ◌+ℤ◌, unsigned_abs}
use Rattle.std.specs.Int.{int_rem_euclid}
use Rattle.rake_finger.specs.declared.finger.Finger.{Finger}

-- a number modulo the period of the codes
abbrev pub modulo_code : ℤ → ℕ
modulo_code x = unsigned_abs (int_rem_euclid x (pos 32768))

-- the finger for a row on the path `delta` chips earlier than the path at a phase
abbrev pub finger_of : ℕ → ℕ → ℤ → Finger
finger_of row phase delta =
    record { phase = modulo_code (pos phase +ℤ delta); delta = delta; row = row }

abbrev pub fingers_of : ℕ → ℕ → List ℤ → List Finger
fingers_of row phase deltas = map (finger_of row phase) deltas
