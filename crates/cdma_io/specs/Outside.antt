-- The results of calls of the operating system: which bytes moved, if known, and why a call failed.
use Rattle.std.specs.Prelude.{◌≡◌, ℕ, ◌+◌, ◌-◌, ◌^◌, ◌<◌, ◌≤◌, min, List, length, take, Option}
use Rattle.std.specs.Prelude.{Result, OnErr, IfOk, MatchResult}
use Rattle.std.specs.Io.KnownBytes.{Appends, Consumes}

-- the next value of a count that stops at 2^64 - 1
abbrev pub next_count : ℕ → ℕ
next_count n = min (n + 1) (2 ^ 64 - 1)

-- a count of faults rose in a call, or has reached 2^64 - 1
abbrev pub Rose : ℕ → ℕ → Type 0
Rose before now = next_count before ≤ now

-- a call never lowers the count of faults, and fails only if the count rose
pub record HasCause {T E : Type 0} (before now : ℕ) (result : Result T E) : Type 0 where
  pub later : before ≤ now
  pub failed : OnErr result (Rose before now)

-- a failed call raises the count of faults by one, up to 2^64 - 1; any other leaves it unchanged
abbrev pub CountsFaults : {T E : Type 0} → ℕ → ℕ → Result T E → Type 0
CountsFaults before now result =
    MatchResult result (λ _. now ≡ before) (λ _. now ≡ next_count before)

-- a sink took at least one byte, unless the piece is empty
abbrev pub Progresses : {E : Type 0} → Result ℕ E → List ℕ → Type 0
Progresses result piece = IfOk result (λ n. 0 < length piece → 1 ≤ n)

-- known bytes lost at most `most` bytes from their front
pub record ConsumesAtMost (most : ℕ) (old new : Option (List ℕ)) : Type 0 where
  pub bytes : List ℕ
  pub fits : length bytes ≤ most
  pub consumed : Consumes old new bytes

-- known bytes lost fewer than `limit` bytes from their front
pub record ConsumesFewer (limit : ℕ) (old new : Option (List ℕ)) : Type 0 where
  pub bytes : List ℕ
  pub fits : length bytes < limit
  pub consumed : Consumes old new bytes

-- known bytes grew by a prefix of a list
pub record AppendsPrefix (old new : Option (List ℕ)) (all : List ℕ) : Type 0 where
  pub count : ℕ
  pub fits : count ≤ length all
  pub appended : Appends old new (take count all)
