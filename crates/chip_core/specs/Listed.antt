-- Numbers in an array of 128: the first `count`, and zeros after them.
use Rattle.std.specs.Prelude.{ℕ, ◌-◌, ◌≤◌, ◌≡◌, List, ◌++◌, take, length, replicate}

-- the array of numbers
abbrev pub filled_list : List ℕ → List ℕ
filled_list numbers = numbers ++ replicate (128 - length numbers) 0

-- the array holds `count` numbers, and zeros after them
pub record IsListed (places : List ℕ) (count : ℕ) : Type 0 where
  pub room : count ≤ 128
  pub long : length places ≡ 128
  pub clear : places ≡ filled_list (take count places)
