-- The checks by their kinds, and the lists that end with a check.
use Rattle.std.specs.Prelude.{◌≡◌, ℕ, ◌-◌, Bool, List, [], length, take, drop, Option, Some, None}
use Rattle.chip_core.specs.Bits.{number}
use Rattle.chip_core.specs.declared.check_form.CheckForm.{CheckForm}
use Rattle.chip_core.specs.declared.check_form.CheckForm.TheVariants.{Plain, Complemented}
use Rattle.quality_bits.specs.declared.kind.Kind.{Kind}
use Rattle.quality_bits.specs.declared.kind.Kind.TheVariants.{Q6, Q8, Q10, Q12, M16, M30}
use Rattle.quality_bits.specs.Quality.{Generator, q6, q8, q10, q12, m16, m30, check_bits, inverted}

abbrev pub generator_of : Kind → Generator
generator_of Q6 = q6
generator_of Q8 = q8
generator_of Q10 = q10
generator_of Q12 = q12
generator_of M16 = m16
generator_of M30 = m30

-- a division in progress: the generator's kind, and the remainder so far as a number
pub record Division : Type 0 where
  pub kind : Kind
  pub rest : ℕ

-- a register of this kind that holds the check of these bits
pub record Checks (register : Division) (kind : Kind) (bits : List Bool) : Type 0 where
  pub same : register.kind ≡ kind
  pub held : register.rest ≡ number (check_bits (generator_of kind) bits)

-- the check of bits as it is sent: with each bit inverted if the form is complemented
abbrev pub sent_check : Kind → CheckForm → List Bool → List Bool
sent_check kind Plain bits = check_bits (generator_of kind) bits
sent_check kind Complemented bits = inverted (check_bits (generator_of kind) bits)

-- the number of bits before the check at the end of a list
abbrev pub body_length : Kind → List Bool → ℕ
body_length kind bits = length bits - (generator_of kind).degree

-- the last bits of a list are the check of those before them
abbrev pub IsChecked : Kind → CheckForm → List Bool → Type 0
IsChecked kind form bits =
    drop (body_length kind bits) bits ≡ sent_check kind form (take (body_length kind bits) bits)

-- the quality indicator after a frame's information bits, if frames of its rate have one
-- (TIA/EIA-95-B, 7.1.3.5)
abbrev pub quality_indicator : Option Kind → List Bool → List Bool
quality_indicator None information = []
quality_indicator (Some kind) information = check_bits (generator_of kind) information

-- the number of its bits
abbrev pub quality_length : Option Kind → ℕ
quality_length None = 0
quality_length (Some kind) = (generator_of kind).degree
