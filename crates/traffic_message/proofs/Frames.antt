-- The parts of frames.
use Rattle.traffic_message.proofs.Common.{◌≡◌, ℕ, ◌+◌, ◌-◌, ◌==◌, Bool, true, false, cond, List, [], ◌∷◌, ◌++◌, length, get_or, take, drop}
use Rattle.traffic_message.proofs.Common.{refl, sym, ap, ◌∙◌, arith, slice_get, Some, None, append-nil, length-drop, take_all, number, Mux}
use Rattle.traffic_message.proofs.Common.{take-append-drop, get_or_from_slice_get, number_at, slice_get-drop, dropped, joined, primary_bits}
use Rattle.traffic_message.proofs.Common.{split_9600}

abbrev parts_of : ℕ → Bool → List Bool → Mux
parts_of size tt bits = record {
  primary = take size bits;
  signal = cond tt None (Some (drop size bits));
  secondary = cond tt (Some (drop size bits)) None;
}

parts_joined : (size : ℕ) (tt : Bool) (bits : List Bool) → joined (parts_of size tt bits) ≡ bits
parts_joined size true bits = take-append-drop size bits
parts_joined size false bits =
    ap (λ (r : List Bool). take size bits ++ r) (append-nil (drop size bits))
    ∙ take-append-drop size bits

pub mixed_parts : (bits : List Bool) → get_or bits 0 false ≡ true → joined (split_9600 bits) ≡ drop 4 bits
unfolding split_9600
mixed_parts bits set =
    let size = primary_bits (get_or bits 2 false) (get_or bits 3 false) in
    rw set (parts_joined size (get_or bits 1 false) (drop 4 bits))

pub plain_parts : (bits : List Bool) → get_or bits 0 false ≡ false → joined (split_9600 bits) ≡ drop 1 bits
unfolding split_9600
plain_parts bits clear = rw clear (append-nil (drop 1 bits))

-- A BIT AT A PLACE
first_set : (xs : List Bool) (b : Bool) → slice_get xs 0 ≡ Some b → (number (take 1 xs) == 1) ≡ b
first_set [] b read = absurd (cc)
first_set (true ∷ xs) b read = cc
first_set (false ∷ xs) b read = cc

pub set_there : (bits : List Bool) (place : ℕ) (b : Bool) → slice_get bits place ≡ Some b →
    (number_at place 1 bits == 1) ≡ b
set_there bits place b read =
    let here : slice_get bits (place + 0) ≡ Some b =
    ap (slice_get bits) (let e : place + 0 ≡ place = omega arith in e) ∙ read in
    first_set (drop place bits) b (slice_get-drop place bits 0 b here)

-- SPLIT
pub plain_split : (bits : List Bool) (mm : Bool) (p : List Bool) → length bits ≡ 172 →
    slice_get bits 0 ≡ Some mm → mm ≡ false → p ≡ take 171 (drop 1 bits) →
    record { primary = p; signal = None; secondary = None } ≡ split_9600 bits
unfolding split_9600
plain_split bits mm p long read clear is =
    let f : get_or bits 0 false ≡ false = get_or_from_slice_get bits 0 mm false read ∙ clear in
    let all : p ≡ drop 1 bits = is ∙ take_all 171 (drop 1 bits) (omega (arith, long, length-drop 1 bits)) in
    rw (f, all) refl

-- A full frame whose first bit is 1 is taken apart as the definition does: its traffic type and
-- mode are the next three bits, primary traffic has as many bits as the mode tells, and all that is
-- left of the 172 is secondary traffic or signaling.
pub mixed_split : (bits : List Bool) (mm tt tm1 tm0 : Bool) (size : ℕ) (p o : List Bool) →
    length bits ≡ 172 → slice_get bits 0 ≡ Some mm → slice_get bits 1 ≡ Some tt →
    slice_get bits 2 ≡ Some tm1 → slice_get bits 3 ≡ Some tm0 → mm ≡ true →
    size ≡ primary_bits tm1 tm0 → p ≡ take size (drop 4 bits) → o ≡ take (168 - size) (drop (4 + size) bits) →
    record { primary = p; signal = cond tt None (Some o); secondary = cond tt (Some o) None }
    ≡ split_9600 bits
unfolding split_9600
mixed_split bits mm tt tm1 tm0 size p o long r0 r1 r2 r3 set is first last =
    let f0 : get_or bits 0 false ≡ true = get_or_from_slice_get bits 0 mm false r0 ∙ set in
    let f1 : get_or bits 1 false ≡ tt = get_or_from_slice_get bits 1 tt false r1 in
    let f2 : get_or bits 2 false ≡ tm1 = get_or_from_slice_get bits 2 tm1 false r2 in
    let f3 : get_or bits 3 false ≡ tm0 = get_or_from_slice_get bits 3 tm0 false r3 in
    let all : o ≡ drop size (drop 4 bits) =
    last ∙ take_all (168 - size) (drop (4 + size) bits) (omega (arith, long, length-drop (4 + size) bits))
    ∙ sym (dropped size 4 bits) in
    rw (f0, f1, f2, f3, ← is, first, all) refl
