-- The slots of a handset (TIA/EIA-95-B, 6.6.2.1.1.3 and 6.6.7.1). Times are counted in slots of
-- 80 ms.
use Rattle.std.specs.Prelude.{ℕ, ◌+◌, ◌-◌, ◌*◌, ◌/◌, ◌%◌, ◌^◌, ◌==◌, Bool, bit_xor}

-- The exclusive or of the key's two halves and six times its lowest 12 bits, times 40,503. The slot
-- is the highest 11 of the lowest 16 bits of this product.
abbrev pub slot_of : ℕ → ℕ
slot_of key =
    let low = key % 65536 in
    let high = key / 65536 in
    40503 * bit_xor (bit_xor low high) (6 * (key % 4096)) % 65536 / 32

-- the number of slots of a cycle: 16 for index 0, doubled for each further index
abbrev pub slot_period : ℕ → ℕ
slot_period cycle = 16 * 2 ^ cycle

-- whether the handset of a key monitors the slot of a time: the time and the key's slot are equal
-- modulo the cycle's length
abbrev pub is_monitored : ℕ → ℕ → ℕ → Bool
is_monitored time key cycle = time % slot_period cycle == slot_of key % slot_period cycle

-- the first monitored time that is `from` or later
abbrev pub next_monitored : ℕ → ℕ → ℕ → ℕ
next_monitored from key cycle =
    from + (slot_of key % slot_period cycle + slot_period cycle - from % slot_period cycle)
    % slot_period cycle

-- the handset of a key, awake at a time in a cycle
pub record Waking : Type 0 where
  pub time : ℕ
  pub key : ℕ
  pub cycle : ℕ
