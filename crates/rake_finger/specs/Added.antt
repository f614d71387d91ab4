-- Intermediate sums of soft values.
use Rattle.rake_finger.specs.Common.{Sample, Form}
use Rattle.std.specs.Prelude.{◌≡◌, ℕ, ◌+◌, ◌<◌, ◌≤◌, List, get_or, ℤ, pos, ◌+ℤ◌, unsigned_abs}
use Rattle.rake_finger.specs.Held.{Held, HoldsLast}
use Rattle.rake_finger.specs.Soft.{soft, soft_bound}
use Rattle.rake_finger.specs.declared.finger.Finger.{Finger}

-- the new entries are the old ones with the finger's soft values added to the first `done`
pub record IsAdded (ring : Held) (finger : Finger) (form : Form) (start done : ℕ)
    (old new : List ℤ) : Type 0 where
  pub values : (samples : List Sample) → HoldsLast ring samples → (j : ℕ) → j < done →
      get_or new j (pos 0) ≡ get_or old j (pos 0) +ℤ soft samples finger form start j
  pub others : (j : ℕ) → done ≤ j → get_or new j (pos 0) ≡ get_or old j (pos 0)
  pub bound : (j : ℕ) → j < done →
      unsigned_abs (get_or new j (pos 0)) ≤ unsigned_abs (get_or old j (pos 0)) + soft_bound form

-- no entry's absolute value is above `bound`
pub record AreWithin (bound : ℕ) (values : List ℤ) : Type 0 where
  pub within : (j : ℕ) → unsigned_abs (get_or values j (pos 0)) ≤ bound
