-- The laws of the code.
use Rattle.std.specs.Prelude.{◌≡◌, ◌≤◌, Bool, List, ◌++◌, length}
use Rattle.conv_code.specs.ConvCode.{code_symbols, state_after}

pub record AreSameCodewords (start start' bits bits' : List Bool) : Type 0 where
  pub starts : start ≡ start'
  pub all : bits ≡ bits'

-- eight or more pairs of symbols determine the eight start bits and every bit
abbrev pub IsDistinctCode : Type 0
IsDistinctCode = (start start' bits bits' : List Bool) → length start ≡ 8 → length start' ≡ 8 →
    8 ≤ length bits → length bits ≡ length bits' →
    code_symbols start bits ≡ code_symbols start' bits' →
    AreSameCodewords start start' bits bits'

-- bits that follow others are encoded from the state after those
abbrev pub IsContinuedCode : Type 0
IsContinuedCode = (start xs ys : List Bool) → length start ≡ 8 →
    code_symbols start (xs ++ ys) ≡ code_symbols start xs ++ code_symbols (state_after start xs) ys
