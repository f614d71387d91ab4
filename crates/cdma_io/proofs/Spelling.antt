-- Lemmas on the bytes of samples.
use Rattle.cdma_io.proofs.Common.{◌≡◌, ℕ, ◌+◌, ◌-◌, ◌*◌, ◌^◌, ◌<◌, ◌≤◌, ℤ, List, [], ◌∷◌, ◌++◌, length, get_or, take, drop, refl, sym, ap}
use Rattle.cdma_io.proofs.Common.{◌∙◌, subst, arith, set, append-nil, append_assoc, length-append, length-drop, take-append-drop, drop_at}
use Rattle.cdma_io.proofs.Common.{All, length-take-le, take_all, take_more_set, flat_map-append, All-head, All-push, All-tail, of_z-to_z}
use Rattle.cdma_io.proofs.Common.{to_z-of_z, w8, w16, cast_signed, cast_unsigned, FitsSigned, flat_map, big_bytes, big_number, big_from-lt}
use Rattle.cdma_io.proofs.Common.{big_number-reads_back, length-bytes_high_first, Sample, Width, Sixteen, Eight, HasBits, integer_width_of}
use Rattle.cdma_io.proofs.Common.{part_len, part_spelling, sample_len, sample_spelling}
use lib.Seq.{take-add}
use Rattle.std.proofs.Math.Facts.{Fits-of_z}
use mir.Val.{bits}
use Rattle.std.proofs.Math.Nat.{mod-eq_of_lt, mul-le-mul_left}
use Rattle.cdma_io.proofs.ByteNumbers.{AreBytes, AreBytes-take, AreBytes-drop, big_bytes-number, big_number-take}

-- the part in the first bytes of a list
abbrev pub part_in : Width → List ℕ → ℤ
part_in width bytes = cast_signed (integer_width_of width) (big_number (part_len width) bytes)

-- the sample in the first bytes of a list
abbrev pub sample_in : Width → List ℕ → Sample
sample_in width bytes = record { i = part_in width bytes; q = part_in width (drop (part_len width) bytes) }

two_parts : (width : Width) → sample_len width ≡ part_len width + part_len width
two_parts Sixteen = refl
two_parts Eight = refl

sample_len-some : (width : Width) → 1 ≤ sample_len width
sample_len-some Sixteen = omega arith
sample_len-some Eight = omega arith

-- a part has as many values as its bytes
part_values : (width : Width) → 2 ^ bits (integer_width_of width) ≡ 256 ^ part_len width
part_values Sixteen = refl
part_values Eight = refl

pub length-sample_spelling : (width : Width) (sample : Sample) →
    length (sample_spelling width sample) ≡ sample_len width
unfolding sample_spelling
length-sample_spelling Sixteen sample = refl
length-sample_spelling Eight sample = refl

-- the bytes of a part are those of the number that they spell in two's complement
part_bytes : (width : Width) (bytes : List ℕ) → length bytes ≡ part_len width → AreBytes bytes →
    part_spelling width (part_in width bytes) ≡ bytes
part_bytes width bytes long small =
    let below : big_number (part_len width) bytes < 256 ^ part_len width = big_from-lt 0 (part_len width) bytes small in
    let fits : big_number (part_len width) bytes < 2 ^ bits (integer_width_of width) =
    omega (arith, below, part_values width) in
    ap (big_bytes (part_len width)) (of_z-to_z (integer_width_of width) (big_number (part_len width) bytes) fits) ∙
    big_bytes-number (part_len width) bytes long small

-- a part in two's complement fits its bytes
part_below : (width : Width) (part : ℤ) → FitsSigned (integer_width_of width) part →
    cast_unsigned (integer_width_of width) part < 256 ^ part_len width
part_below Sixteen part fits = omega (arith, Fits-of_z fits)
part_below Eight part fits = omega (arith, Fits-of_z fits)

-- the bytes of a part give it back
part_in-spelling : (width : Width) (part : ℤ) (rest : List ℕ) → FitsSigned (integer_width_of width) part →
    part_in width (part_spelling width part ++ rest) ≡ part
part_in-spelling width part rest fits =
    ap (cast_signed (integer_width_of width))
    (big_number-reads_back (part_len width) (cast_unsigned (integer_width_of width) part) rest
    (part_below width part fits))
    ∙ to_z-of_z (integer_width_of width) part fits

-- the bytes of a sample are those of the sample in them
pub sample_bytes : (width : Width) (bytes : List ℕ) → length bytes ≡ sample_len width →
    AreBytes bytes → bytes ≡ sample_spelling width (sample_in width bytes)
unfolding sample_spelling
sample_bytes width bytes long small =
    let n = part_len width in
    let front = take n bytes in
    let back = drop n bytes in
    let both : length bytes ≡ n + n = long ∙ two_parts width in
    let room : n ≤ length bytes = omega (arith, both) in
    let pattern : ℕ → List ℕ = λ k. part_spelling width (cast_signed (integer_width_of width) k) in
    let first : pattern (big_number n front) ≡ front =
    part_bytes width front (length-take-le n bytes room) (AreBytes-take n bytes small) in
    let second : pattern (big_number n back) ≡ back =
    part_bytes width back (omega (arith, both, length-drop n bytes)) (AreBytes-drop n bytes small) in
    let read : big_number n bytes ≡ big_number n front = big_number-take n bytes room in
    sym (
    ap (λ (k : ℕ). pattern k ++ pattern (big_number n back)) read
    ∙ ap (λ (xs : List ℕ). xs ++ pattern (big_number n back)) first
    ∙ ap (λ (xs : List ℕ). front ++ xs) second
    ∙ take-append-drop n bytes
    )

-- the sample that a reader made of four bytes, which it read at two places of a slice
pub spelled_wide : (bytes : List ℕ) (i q : ℤ) → length bytes ≡ 4 → AreBytes bytes →
    i ≡ cast_signed w16 (big_number 2 bytes) →
    q ≡ cast_signed w16 (big_number 2 (take (length bytes - 2) (drop 2 bytes))) →
    bytes ≡ sample_spelling Sixteen (record { i = i; q = q })
spelled_wide bytes i q long small i_is q_is =
    let room : length (drop 2 bytes) ≤ length bytes - 2 = omega (arith, length-drop 2 bytes) in
    let back : take (length bytes - 2) (drop 2 bytes) ≡ drop 2 bytes =
    take_all (length bytes - 2) (drop 2 bytes) room in
    let q_read : q ≡ cast_signed w16 (big_number 2 (drop 2 bytes)) = q_is ∙
    ap (λ (xs : List ℕ). cast_signed w16 (big_number 2 xs)) back in
    let make : ℤ → ℤ → Sample = λ i q. record { i = i; q = q } in
    sample_bytes Sixteen bytes long small
    ∙ ap (λ (x : ℤ). sample_spelling Sixteen (make x (cast_signed w16 (big_number 2 (drop 2 bytes))))) (sym i_is)
    ∙ ap (λ (x : ℤ). sample_spelling Sixteen (make i x)) (sym q_read)

-- the sample that a reader made of two bytes, each of which it read at its place
pub spelled_narrow : (bytes : List ℕ) (i q : ℤ) → length bytes ≡ 2 → AreBytes bytes →
    i ≡ cast_signed w8 (get_or bytes 0 0) → q ≡ cast_signed w8 (get_or bytes 1 0) →
    bytes ≡ sample_spelling Eight (record { i = i; q = q })
spelled_narrow [] i q long small i_is q_is = absurd (omega (arith, long))
spelled_narrow (a ∷ []) i q long small i_is q_is = absurd (omega (arith, long))
spelled_narrow (a ∷ b ∷ c ∷ rest) i q long small i_is q_is = absurd (omega (arith, long))
spelled_narrow (a ∷ b ∷ []) i q long small i_is q_is =
    let first : big_number 1 (a ∷ b ∷ []) ≡ a = omega arith in
    let second : big_number 1 (b ∷ []) ≡ b = omega arith in
    let make : ℤ → ℤ → Sample = λ i q. record { i = i; q = q } in
    sample_bytes Eight (a ∷ b ∷ []) refl small
    ∙ ap (λ (n : ℕ). sample_spelling Eight (make (cast_signed w8 n) (cast_signed w8 (big_number 1 (b ∷ []))))) first
    ∙ ap (λ (n : ℕ). sample_spelling Eight (make (cast_signed w8 a) (cast_signed w8 n))) second
    ∙ ap (λ (x : ℤ). sample_spelling Eight (make x (cast_signed w8 b))) (sym i_is)
    ∙ ap (λ (x : ℤ). sample_spelling Eight (make i x)) (sym q_is)

-- a byte spells itself
one_byte : (n : ℕ) → n < 256 → big_bytes 1 n ≡ n ∷ []
one_byte n small = ap (λ (b : ℕ). b ∷ []) (mod-eq_of_lt small)

-- the two bytes of a sample's parts
pub spelled_by_bytes : (sample : Sample) (a b : ℕ) → a < 256 → b < 256 →
    a ≡ cast_unsigned w8 sample.i → b ≡ cast_unsigned w8 sample.q → a ∷ b ∷ [] ≡ sample_spelling Eight sample
unfolding sample_spelling
spelled_by_bytes sample a b small_a small_b a_is b_is =
    let first : big_bytes 1 (cast_unsigned w8 sample.i) ≡ a ∷ [] = ap (big_bytes 1) (sym a_is) ∙
    one_byte a small_a in
    let second : big_bytes 1 (cast_unsigned w8 sample.q) ≡ b ∷ [] = ap (big_bytes 1) (sym b_is) ∙
    one_byte b small_b in
    sym (ap (λ (xs : List ℕ). xs ++ big_bytes 1 (cast_unsigned w8 sample.q)) first ∙
    ap (λ (xs : List ℕ). (a ∷ []) ++ xs) second)

-- a byte that was read as a signed number, widened and kept in 16 bits
pub widened : (n : ℕ) (x y : ℤ) → n < 256 → x ≡ cast_signed w8 n →
    y ≡ cast_signed w8 (cast_unsigned w8 x) → FitsSigned w16 y →
    cast_signed w16 (cast_unsigned w16 y) ≡ cast_signed w8 n
widened n x y small x_is y_is fits =
    to_z-of_z w16 y fits ∙ y_is ∙ ap (λ (z : ℤ). cast_signed w8 (cast_unsigned w8 z)) x_is ∙
    ap (cast_signed w8) (of_z-to_z w8 n small)

-- the bytes of a sample give it back
pub sample_in-spelling : (width : Width) (sample : Sample) (rest : List ℕ) → HasBits width sample →
    sample_in width (sample_spelling width sample ++ rest) ≡ sample
unfolding sample_spelling
sample_in-spelling width sample rest small =
    let n = part_len width in
    let first = part_spelling width sample.i in
    let second = part_spelling width sample.q in
    let parted : sample_spelling width sample ++ rest ≡ first ++ (second ++ rest) = append_assoc first second rest in
    let long : length first ≡ n = length-bytes_high_first n (cast_unsigned (integer_width_of width) sample.i) in
    let i_read : part_in width (sample_spelling width sample ++ rest) ≡ sample.i =
    ap (part_in width) parted ∙ part_in-spelling width sample.i (second ++ rest) small.in_phase in
    let q_read : part_in width (drop n (sample_spelling width sample ++ rest)) ≡ sample.q =
    ap (λ (xs : List ℕ). part_in width (drop n xs)) parted
    ∙ ap (part_in width) (drop_at first (second ++ rest) n long)
    ∙ part_in-spelling width sample.q rest small.quadrature in
    let make : ℤ → ℤ → Sample = λ i q. record { i = i; q = q } in
    ap (λ (x : ℤ). make x (part_in width (drop n (sample_spelling width sample ++ rest)))) i_read
    ∙ ap (make sample.i) q_read

pub length-samples : (width : Width) (samples : List Sample) →
    length (flat_map (sample_spelling width) samples) ≡ sample_len width * length samples
length-samples width [] = omega arith
length-samples width (x ∷ xs) =
    omega (
      arith,
      length-append (sample_spelling width x) (flat_map (sample_spelling width) xs),
      length-sample_spelling width x,
      length-samples width xs,
    )

-- more samples have more bytes
pub sample_len-mono : (width : Width) (m n : ℕ) → m ≤ n → sample_len width * m ≤ sample_len width * n
sample_len-mono width m n few = mul-le-mul_left (sample_len width) few

-- the bytes of samples fix them
pub flat_map-sample_spelling : (width : Width) (xs ys : List Sample) → All (HasBits width) xs → All (HasBits width) ys →
    flat_map (sample_spelling width) xs ≡ flat_map (sample_spelling width) ys → xs ≡ ys
flat_map-sample_spelling width [] [] small_x small_y same = refl
flat_map-sample_spelling width [] (y ∷ ys) small_x small_y same =
    absurd (omega (
      arith,
      ap length same,
      length-append (sample_spelling width y) (flat_map (sample_spelling width) ys),
      length-sample_spelling width y,
      sample_len-some width,
    ))
flat_map-sample_spelling width (x ∷ xs) [] small_x small_y same =
    absurd (omega (
      arith,
      ap length same,
      length-append (sample_spelling width x) (flat_map (sample_spelling width) xs),
      length-sample_spelling width x,
      sample_len-some width,
    ))
flat_map-sample_spelling width (x ∷ xs) (y ∷ ys) small_x small_y same =
    let xs_bytes = flat_map (sample_spelling width) xs in
    let ys_bytes = flat_map (sample_spelling width) ys in
    let first : x ≡ y =
    sym (sample_in-spelling width x xs_bytes (All-head (HasBits width) x xs small_x))
    ∙ ap (sample_in width) same
    ∙ sample_in-spelling width y ys_bytes (All-head (HasBits width) y ys small_y) in
    let rest : xs_bytes ≡ ys_bytes =
    sym (drop_at (sample_spelling width x) xs_bytes (sample_len width) (length-sample_spelling width x))
    ∙ ap (drop (sample_len width)) same
    ∙ drop_at (sample_spelling width y) ys_bytes (sample_len width) (length-sample_spelling width y)
    in
    let others : xs ≡ ys =
    flat_map-sample_spelling width xs ys (All-tail (HasBits width) x xs small_x)
    (All-tail (HasBits width) y ys small_y) rest in
    ap (λ (z : Sample). z ∷ xs) first ∙ ap (λ (zs : List Sample). y ∷ zs) others

-- the step of a reader's loop over samples: the bytes of one more
pub samples_more : (width : Width) (bytes : List ℕ) (out : List Sample) (k from end : ℕ)
    (sample : Sample) → k < length out → from ≡ sample_len width * k → end ≡ sample_len width * (k + 1) →
    take (sample_len width * k) bytes ≡ flat_map (sample_spelling width) (take k out) →
    take (end - from) (drop from bytes) ≡ sample_spelling width sample → take (sample_len width * (k + 1)) bytes ≡
    flat_map (sample_spelling width) (take (k + 1) (set out k sample))
samples_more width bytes out k from end sample within from_is end_is before next =
    let n = sample_len width in
    let place : n * (k + 1) ≡ n * k + n = omega arith in
    let wide : end - from ≡ n = omega (arith, from_is, end_is, place) in
    let one : take n (drop (n * k) bytes) ≡ sample_spelling width sample =
    ap (λ (m : ℕ). take n (drop m bytes)) (sym from_is) ∙
    ap (λ (m : ℕ). take m (drop from bytes)) (sym wide) ∙ next in
    let front = flat_map (sample_spelling width) (take k out) in
    let joined : flat_map (sample_spelling width) (take (k + 1) (set out k sample)) ≡
    front ++ (sample_spelling width sample ++ []) =
    ap (flat_map (sample_spelling width)) (take_more_set out k sample within) ∙
    flat_map-append (sample_spelling width) (take k out) (sample ∷ []) in
    ap (λ (m : ℕ). take m bytes) place
    ∙ take-add (n * k) n bytes
    ∙ ap (λ (xs : List ℕ). xs ++ take n (drop (n * k) bytes)) before
    ∙ ap (λ (xs : List ℕ). front ++ xs) (one ∙ sym (append-nil (sample_spelling width sample)))
    ∙ sym joined

pub in_range_more : (width : Width) (out : List Sample) (k : ℕ) (sample : Sample) → k < length out →
    All (HasBits width) (take k out) → (HasBits width) sample → All (HasBits width) (take (k + 1) (set out k sample))
in_range_more width out k sample within before small =
    subst (All (HasBits width)) (sym (take_more_set out k sample within))
    (All-push (HasBits width) (take k out) sample before small)

-- what is read of the bytes of samples
pub record AreNext (width : Width) (samples next : List Sample) (rest : List ℕ) : Type 0 where
  pub first : next ≡ take (length next) samples
  pub others : rest ≡ flat_map (sample_spelling width) (drop (length next) samples)

-- the samples that the bytes of samples begin with are the first of them
pub next_samples : (width : Width) (next samples : List Sample) (rest : List ℕ) →
    All (HasBits width) samples → All (HasBits width) next → length next ≤ length samples →
    flat_map (sample_spelling width) samples ≡ flat_map (sample_spelling width) next ++ rest →
    AreNext width samples next rest
next_samples width [] samples rest small small_next fits same = record { first = refl; others = sym same }
next_samples width (y ∷ ys) [] rest small small_next fits same = absurd (omega arith)
next_samples width (y ∷ ys) (x ∷ xs) rest small small_next fits same =
    let xs_bytes = flat_map (sample_spelling width) xs in
    let ys_bytes = flat_map (sample_spelling width) ys ++ rest in
    let regrouped : sample_spelling width x ++ xs_bytes ≡ sample_spelling width y ++ ys_bytes =
    same ∙ append_assoc (sample_spelling width y) (flat_map (sample_spelling width) ys) rest in
    let front : x ≡ y =
    sym (sample_in-spelling width x xs_bytes (All-head (HasBits width) x xs small))
    ∙ ap (sample_in width) regrouped
    ∙ sample_in-spelling width y ys_bytes (All-head (HasBits width) y ys small_next) in
    let back : xs_bytes ≡ ys_bytes =
    sym (drop_at (sample_spelling width x) xs_bytes (sample_len width) (length-sample_spelling width x))
    ∙ ap (drop (sample_len width)) regrouped
    ∙ drop_at (sample_spelling width y) ys_bytes (sample_len width) (length-sample_spelling width y)
    in
    let later =
    next_samples width ys xs rest (All-tail (HasBits width) x xs small)
    (All-tail (HasBits width) y ys small_next) (omega arith) back in
    record {
      first = ap (λ (z : Sample). z ∷ ys) (sym front) ∙
          ap (λ (zs : List Sample). x ∷ zs) later.first;
      others = later.others;
    }
