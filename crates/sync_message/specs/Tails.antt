-- The bits after the fields that each message has.
use Rattle.std.specs.Prelude.{ℕ, ◌≡◌, ◌≤◌, ◌<◌, ◌%◌, ◌^◌, Bool, List, length, Option, Some, None}
use Rattle.sync_message.specs.Rows.{freq_row}

-- 3 bits in a message of 25 octets; otherwise a frequency, and whole octets
abbrev pub IsTail : Option ℕ → List Bool → Type 0
IsTail None rest = length rest ≡ 3
IsTail (Some freq) rest = (freq < 2 ^ freq_row.width) × (length rest % 8 ≡ 0) × (length rest ≤ 976)
