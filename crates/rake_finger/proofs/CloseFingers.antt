-- Where the frames of fingers that are close to the reference path begin and end, of either form.
use Rattle.rake_finger.proofs.Common.{◌≡◌, ℕ, zero, suc, ◌+◌, ◌<◌, ◌≤◌, true, List, [], ◌∷◌, length, refl, arith, ℤ, pos, ◌-ℤ◌, ◌≤ℤ◌, All}
use Rattle.rake_finger.proofs.Common.{nat_le, negsuc, slice_index_or, unsigned_abs, int_le, ints, and_parts, and_from, nat_tests, Held}
use Rattle.rake_finger.proofs.Common.{IsInRing, Finger, Data, AreClose, all_close, is_close, AreNear, all_begun, all_near, has_reference}
use Rattle.rake_finger.proofs.Common.{is_near, frame_end, ◌+ℤ◌, frame_chips, Form, Sync, AreBegun}

-- FRAMES
pub some_chips : (form : Form) → 256 ≤ frame_chips form
some_chips Sync = omega arith
some_chips Data = omega arith

pub most_chips : (form : Form) → frame_chips form ≤ 32768
most_chips Sync = omega arith
most_chips Data = omega arith

-- ONE FINGER
-- the end of one finger's frame
abbrev pub end_at : ℕ → ℕ → ℤ → ℕ
end_at m u d = unsigned_abs ((pos u -ℤ d) +ℤ pos m)

pub near_parts : (f : Finger) (fingers : List Finger) → all_near (f ∷ fingers) ≡ true →
    (int_le (negsuc 127) f.delta ≡ true) × (int_le f.delta (pos 127) ≡ true) × (all_near fingers ≡ true)
near_parts f fingers h =
    let a = and_parts (is_near f.delta) (all_near fingers) h in
    let b = and_parts (int_le (negsuc 127) f.delta) (int_le f.delta (pos 127)) a.0 in
    (b.0, b.1, a.1)

end_low : (u m : ℕ) (d : ℤ) → nat_le (unsigned_abs d) 226 ≡ true → u + m ≤ end_at m u d + 226
end_low u m d h = grind (arith, ints, nat_tests)

end_high : (u m : ℕ) (d : ℤ) → nat_le (unsigned_abs d) 226 ≡ true → end_at m u d ≤ u + m + 226
end_high u m d h = grind (arith, ints, nat_tests)

end_on : (u m n : ℕ) (d : ℤ) → nat_le (unsigned_abs d) 226 ≡ true → 226 ≤ m → end_at m (u + n) d ≡ end_at m u d + n
end_on u m n d h few = grind (arith, ints, nat_tests)

begun_close : (u : ℕ) (d : ℤ) → nat_le (unsigned_abs d) 226 ≡ true → 226 ≤ u → int_le d (pos u) ≡ true
begun_close u d h l = grind (arith, ints, nat_tests)

begun_is : (u : ℕ) (d : ℤ) → int_le d (pos u) ≡ true → d ≤ℤ pos u
begun_is u d h = grind (arith, ints)

place_low : (u : ℕ) (d : ℤ) → nat_le (unsigned_abs d) 226 ≡ true → int_le d (pos u) ≡ true →
    u ≤ unsigned_abs (pos u -ℤ d) + 226
place_low u d h b = grind (arith, ints, nat_tests)

place_end : (m u : ℕ) (d : ℤ) → int_le d (pos u) ≡ true → unsigned_abs (pos u -ℤ d) + m ≡ end_at m u d
place_end m u d h = grind (arith, ints)

-- ALL FINGERS
pub ends_high : (form : Form) (u : ℕ) (fingers : List Finger) → all_close fingers ≡ true →
    frame_end fingers form u ≤ u + frame_chips form + 226
ends_high form u [] h = omega arith
ends_high form u (f ∷ fingers) h =
    let is = and_parts (is_close f) (all_close fingers) h in
    let one = end_high u (frame_chips form) f.delta is.0 in
    omega (arith, one, ends_high form u fingers is.1)

pub ends_low : (form : Form) (u : ℕ) (fingers : List Finger) → AreClose fingers →
    u + frame_chips form ≤ frame_end fingers form u + 226
ends_low form u [] h = absurd (omega (arith, h.some))
ends_low form u (f ∷ fingers) h =
    let is = and_parts (is_close f) (all_close fingers) h.close in
    let one = end_low u (frame_chips form) f.delta is.0 in
    omega (arith, one)

-- the frame that begins at a reference sample ends a frame later, within half the widest window
pub close_ends : (u : ℕ) (fingers : List Finger) → AreClose fingers → (u + 24576 ≤ frame_end fingers Data u + 226)
    × (frame_end fingers Data u ≤ u + 24576 + 226)
close_ends u fingers h = (ends_low Data u fingers h, ends_high Data u fingers h.close)

later_more : (form : Form) (u n : ℕ) (f : Finger) (fingers : List Finger) → all_close (f ∷ fingers) ≡ true →
    frame_end (f ∷ fingers) form (u + n) ≡ frame_end (f ∷ fingers) form u + n
later_more form u n f [] h =
    let is = and_parts (is_close f) (all_close []) h in
    let m = some_chips form in
    let one = end_on u (frame_chips form) n f.delta is.0 (omega (arith, m)) in
    omega (arith, one)
later_more form u n f (g ∷ fingers) h =
    let is = and_parts (is_close f) (all_close (g ∷ fingers)) h in
    let m = some_chips form in
    let one = end_on u (frame_chips form) n f.delta is.0 (omega (arith, m)) in
    let rest = later_more form u n g fingers is.1 in
    omega (arith, one, rest)

-- if it begins n samples later, it ends n samples later
pub later_by : (form : Form) (u n : ℕ) (fingers : List Finger) → AreClose fingers →
    frame_end fingers form (u + n) ≡ frame_end fingers form u + n
later_by form u n [] h = absurd (omega (arith, h.some))
later_by form u n (f ∷ fingers) h = later_more form u n f fingers h.close

-- it doesn't begin before the file
pub close_begun : (u : ℕ) (fingers : List Finger) → all_close fingers ≡ true → 226 ≤ u → all_begun u fingers ≡ true
close_begun u [] h l = refl
close_begun u (f ∷ fingers) h l =
    let is = and_parts (is_close f) (all_close fingers) h in
    and_from (int_le f.delta (pos u)) (all_begun u fingers) (begun_close u f.delta is.0 l)
    (close_begun u fingers is.1 l)

-- the ring still has each finger's samples when the last finger's frame ends
in_ring_at : (ring : Held) (form : Form) (u : ℕ) (fingers : List Finger) → ring.room ≡ 65536 →
    all_close fingers ≡ true → all_begun u fingers ≡ true →
    frame_end fingers form u ≤ ring.taken → ring.taken ≤ u + frame_chips form + 226 → All (IsInRing ring form u) fingers
in_ring_at ring form u [] room h b e most = λ k d less. absurd (omega (arith, less))
in_ring_at ring form u (f ∷ fingers) room h b e most =
    let is = and_parts (is_close f) (all_close fingers) h in
    let begun = and_parts (int_le f.delta (pos u)) (all_begun u fingers) b in
    let chips = most_chips form in
    let place = place_end (frame_chips form) u f.delta begun.0 in
    let low = place_low u f.delta is.0 begun.0 in
    let one : IsInRing ring form u f = record {
      begun = begun_is u f.delta begun.0;
      held = record { kept = omega (arith, low, most, room, chips); taken = omega (arith, place, e) };
    } in
    each one (in_ring_at ring form u fingers room is.1 begun.1 (omega (arith, e)) most)
  where
    each : IsInRing ring form u f → All (IsInRing ring form u) fingers → All (IsInRing ring form u) (f ∷ fingers)
    each one rest = λ k d less. at_place k d less
      where
        at_place : (k : ℕ) (d : Finger) → k < length (f ∷ fingers) →
            IsInRing ring form u (slice_index_or (f ∷ fingers) k d)
        at_place zero d less = one
        at_place (suc k) d less = rest k d (omega (arith, less))

pub begun_in_ring : (ring : Held) (form : Form) (u : ℕ) (fingers : List Finger) →
    all_close fingers ≡ true → AreBegun u fingers → ring.room ≡ 65536 →
    ring.taken ≡ frame_end fingers form u → All (IsInRing ring form u) fingers
begun_in_ring ring form u fingers h begun room e =
    in_ring_at ring form u fingers room h begun (omega (arith, e)) (omega (arith, e, ends_high form u fingers h))

-- NEAR FINGERS ARE CLOSE
pub near_one : (f : Finger) → is_near f.delta ≡ true → is_close f ≡ true
near_one f h = close_of f.delta (near_parts f [] (and_from (is_near f.delta) true h refl))
  where
    close_of : (d : ℤ) → (int_le (negsuc 127) d ≡ true) × (int_le d (pos 127) ≡ true)
        × (all_near [] ≡ true) → nat_le (unsigned_abs d) 226 ≡ true
    close_of d is = let a = is.0 in let b = is.1 in grind (arith, ints, nat_tests)

pub near_close : (fingers : List Finger) → all_near fingers ≡ true → all_close fingers ≡ true
near_close [] h = refl
near_close (f ∷ fingers) h =
    let is = and_parts (is_near f.delta) (all_near fingers) h in
    and_from (is_close f) (all_close fingers) (near_one f is.0) (near_close fingers is.1)

some_finger : (fingers : List Finger) → has_reference fingers ≡ true → 1 ≤ length fingers
some_finger [] h = absurd (cc)
some_finger (f ∷ fingers) h = omega arith

pub near_are_close : (fingers : List Finger) → AreNear fingers → AreClose fingers
near_are_close fingers h =
    let both = and_parts (all_near fingers) (has_reference fingers) h in
    record { some = some_finger fingers both.1; close = near_close fingers both.0 }
