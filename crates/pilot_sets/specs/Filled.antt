-- Items in an array: the first `count`, and a filler after them.
use Rattle.std.specs.Prelude.{◌≡◌, ℕ, ◌-◌, ◌≤◌, List, ◌++◌, drop, length, replicate}

-- the array of `room` places that holds these things
abbrev pub filled : {X : Type 0} → X → ℕ → List X → List X
filled filler room things = things ++ replicate (room - length things) filler

-- an array of `room` places of which the first `count` are used; the others contain the filler
pub record IsFilled {X : Type 0} (filler : X) (room : ℕ) (places : List X) (count : ℕ)
    : Type 0 where
  pub within : count ≤ room
  pub long : length places ≡ room
  pub clear : drop count places ≡ replicate (room - count) filler
