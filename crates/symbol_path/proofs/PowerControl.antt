-- Power control bits that replace symbols.
use Rattle.symbol_path.proofs.Common.{◌≡◌, ℕ, ◌/◌, Bool, true, false, List, get_or, refl, sym, nat_eq, Some, list_any, slice_get}
use Rattle.symbol_path.proofs.Common.{get_or_from_slice_get, symbol_or_power_bit}

-- at a place that is replaced stands the bit of its group
pub replaced_symbol : (replaced : List ℕ) (power_bits symbols : List Bool) (i group : ℕ) →
    list_any (λ place. nat_eq place i) replaced ≡ true → group ≡ i / 24 →
    get_or power_bits group false ≡ symbol_or_power_bit replaced power_bits symbols i
replaced_symbol replaced power_bits symbols i group found here = rw (found, here) refl

-- elsewhere stands the symbol
pub kept_symbol : (replaced : List ℕ) (power_bits symbols : List Bool) (i : ℕ) (symbol : Bool) →
    list_any (λ place. nat_eq place i) replaced ≡ false → slice_get symbols i ≡ Some symbol →
    symbol ≡ symbol_or_power_bit replaced power_bits symbols i
kept_symbol replaced power_bits symbols i symbol none read =
    rw none (sym (get_or_from_slice_get symbols i symbol false read))
