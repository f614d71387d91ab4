-- Soft values descrambled by the scrambling bits of a frame (TIA/EIA-95-B, 7.1.3.1.6).
use Rattle.rake_finger.specs.Common.{sign, zip_with}
use Rattle.std.specs.Prelude.{◌≡◌, ℕ, Bool, List, [], ◌∷◌, length, ℤ, ◌*ℤ◌, ◌⊎◌}

-- soft values, each negated if its scrambling bit is 1
abbrev pub descrambled : List Bool → List ℤ → List ℤ
descrambled scrambling values = zip_with (λ b v. sign b *ℤ v) scrambling values

-- soft values descrambled by a frame's scrambling bits, if there are any
abbrev pub unscrambled : List Bool → List ℤ → List ℤ
unscrambled [] values = values
unscrambled (b ∷ bits) values = descrambled (b ∷ bits) values

-- no scrambling bits, or as many as the frame has symbols
abbrev pub Scrambles : List Bool → ℕ → Type 0
Scrambles bits symbols = (bits ≡ []) ⊎ (length bits ≡ symbols)
