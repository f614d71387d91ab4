-- The code symbol that is sent as symbol i.
use Rattle.symbol_path.proofs.Common.{◌≡◌, ℕ, zero, suc, ◌*◌, ◌/◌, ◌<◌, ◌≤◌, sym, arith, div-eq_of_eq-mul_left, div_below, Kind, Sync, Data}
use Rattle.symbol_path.proofs.Common.{shape_of, size, SentSymbols, Every, Kept, sent_count}

pub size_some : (kind : Kind) → 0 < size (shape_of kind)
size_some Sync = omega arith
size_some Data = omega arith

pub size_most : (kind : Kind) → size (shape_of kind) ≤ 384
size_most Sync = omega arith
size_most Data = omega arith

pub sent_most : (symbols : SentSymbols) → sent_count symbols ≤ 384
sent_most (Every kind) = size_most kind
sent_most Kept = omega arith

-- each symbol is repeated at least once
pub repeats_some : (count repeats total : ℕ) → count * repeats ≡ total → 0 < total → 0 < repeats
repeats_some count zero total e some = absurd (omega (arith, e, some))
repeats_some count (suc r) total e some = omega arith

pub symbol_lt : (a count repeats total : ℕ) → count * repeats ≡ total → a < total → a / repeats < count
symbol_lt a count repeats total e h =
    let some : 0 < total = omega (arith, h) in
    div_below a repeats count (repeats_some count repeats total e some) (omega (arith, e, h))

-- the same of numbers as they were read
pub read_symbol_lt : (address before now from repeats n : ℕ) → from ≡ repeats → now ≡ before →
    before * repeats ≡ n → address < n → address / from < now
read_symbol_lt address before now from repeats n same kept code below =
    symbol_lt address now from n (rw (same, kept) code) below

pub read_repeats_some : (count repeats from total address : ℕ) → from ≡ repeats →
    count * repeats ≡ total → address < total → 0 < from
read_repeats_some count repeats from total address same e below =
    rw same (repeats_some count repeats total e (omega (arith, below)))

pub count_is : (count repeats total : ℕ) → count * repeats ≡ total → 0 < total → total / repeats ≡ count
count_is count repeats total e some = div-eq_of_eq-mul_left (repeats_some count repeats total e some) (sym e)
