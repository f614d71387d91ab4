-- The signaling of a decoded frame.
use Rattle.heard_events.proofs.Common.{Bool, IfSome, List, Mux, None, Option, R1200, R2400, R4800, R9600, Rate, Some, arith, decoded, drop}
use Rattle.heard_events.proofs.Common.{false, format_of, frame_long, get_or, information_of, length, length-drop, lower_rates, refl, split}
use Rattle.heard_events.proofs.Common.{primary_bits, split_9600, true, ℕ, ℤ, ◌≡◌, ◌≤◌, cond_both}

-- A DECODED FRAME HAS THE INFORMATION BITS OF ITS RATE
pub decoded_long : (replaced : List ℕ) (softs : List ℤ) →
    length (decoded replaced softs).bits ≡ information_of (decoded replaced softs).rate
unfolding decoded
decoded_long replaced softs = frame_long information_of format_of R9600 lower_rates replaced softs (λ r. refl)

-- ITS SIGNALING IS SOME BITS LONG
abbrev IsLongSignal : Option (List Bool) → Type 0
IsLongSignal part = IfSome part (λ signal. 2 ≤ length signal)

primary_most : (tm1 tm0 : Bool) → primary_bits tm1 tm0 ≤ 80
primary_most true true = omega arith
primary_most true false = omega arith
primary_most false true = omega arith
primary_most false false = omega arith

-- The signaling of a frame at 9600 bps has at least two bits where there is any: of its 172
-- information bits four tell the format and at most 80 are primary traffic.
full_long : (bits : List Bool) → length bits ≡ 172 → IsLongSignal (split_9600 bits).signal
unfolding split_9600
full_long bits long =
    let tm1 = get_or bits 2 false in
    let tm0 = get_or bits 3 false in
    let size : ℕ = primary_bits tm1 tm0 in
    let most = primary_most tm1 tm0 in
    let rest = length-drop 4 bits in
    let following = length-drop size (drop 4 bits) in
    cond_both (get_or bits 0 false) _ _ (λ (m : Mux). IsLongSignal m.signal)
    (λ _.
    cond_both (get_or bits 1 false) None (Some (drop size (drop 4 bits))) IsLongSignal (λ _. tt)
    (λ _. omega (arith, long, most, rest, following)))
    (λ _. tt)

pub signal_long : (rate : Rate) (bits : List Bool) → length bits ≡ information_of rate →
    IsLongSignal (split rate bits).signal
unfolding split
signal_long R9600 bits long = full_long bits long
signal_long R4800 bits long = tt
signal_long R2400 bits long = tt
signal_long R1200 bits long = tt
