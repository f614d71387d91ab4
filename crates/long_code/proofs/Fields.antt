-- Masks, field after field.
use Rattle.long_code.proofs.Common.{◌≡◌, ℕ, zero, suc, ◌+◌, ◌*◌, ◌/◌, ◌%◌, ◌^◌, ◌<◌, ◌≤◌, Bool, true, false, List, [], ◌∷◌, ◌++◌, length}
use Rattle.long_code.proofs.Common.{get_or, take, map, replicate, refl, sym, ap, ◌∙◌, arith, nat_eq, nat_lt, bit_and, bit_or, append_assoc}
use Rattle.long_code.proofs.Common.{length-append, or_shifted, and_mask, agree_below, agree_below_at, take_more, map-append, length-take-le}
use Rattle.long_code.proofs.Common.{length-map, pow_mono, digit, number, binary, bit_of, number_from-append, paging_mask, length-binary}
use Rattle.long_code.proofs.Common.{permuted, traffic_mask, number-binary, number_lt, digit_again}

-- one bit more
number-push : (bs : List Bool) (b : Bool) → number (bs ++ b ∷ []) ≡ 2 * number bs + digit b
number-push bs b = number_from-append 0 bs (b ∷ [])

-- A field of w bits more multiplies the number by 2^w and adds the field's own number: by induction
-- over w, since each last bit doubles the number before it and adds its digit.
number-field : (bs : List Bool) (w n : ℕ) → n < 2 ^ w → number (bs ++ binary w n) ≡ number bs * 2 ^ w + n
unfolding binary
number-field bs zero n h = number_from-append 0 bs [] ∙ omega (arith, h)
number-field bs (suc w) n h =
    let half : n / 2 < 2 ^ w = omega (arith, h) in
    let twice : 2 ^ (suc w) ≡ 2 * 2 ^ w = omega arith in
    let parts : number ((bs ++ binary w (n / 2)) ++ nat_eq (n % 2) 1 ∷ []) ≡
    2 * (number bs * 2 ^ w + n / 2) + n % 2 =
    number-push (bs ++ binary w (n / 2)) (nat_eq (n % 2) 1) ∙
    rw (number-field bs w (n / 2) half, digit_again (n % 2) (omega arith)) in
    ap number (sym (append_assoc bs (binary w (n / 2)) (nat_eq (n % 2) 1 ∷ []))) ∙ parts ∙
    rw twice (omega arith)

zeros : (w : ℕ) → replicate w false ≡ binary w 0
unfolding binary
zeros w = sym (all_zero w)
  where
    one_after : (w : ℕ) → replicate w false ++ false ∷ [] ≡ replicate (suc w) false
    one_after zero = refl
    one_after (suc w) = ap (λ (r : List Bool). false ∷ r) (one_after w)

    all_zero : (w : ℕ) → binary w 0 ≡ replicate w false
    all_zero zero = refl
    all_zero (suc w) = ap (λ (r : List Bool). r ++ false ∷ []) (all_zero w) ∙ one_after w

pub paging_mask_is : (channel pilot : ℕ) → channel < 8 → pilot < 512 →
    paging_mask channel pilot ≡ (203168 * 8 + channel) * 2097152 + pilot
unfolding paging_mask
paging_mask_is channel pilot p q =
    rw (zeros 12, zeros 5)
    (number-field ((((binary 13 0x18cd) ++ binary 5 0) ++ binary 3 channel) ++ binary 12 0) 9 pilot (omega (arith, q))
    ∙ rw (
      number-field (((binary 13 0x18cd) ++ binary 5 0) ++ binary 3 channel) 12 0 (omega arith),
      number-field ((binary 13 0x18cd) ++ binary 5 0) 3 channel (omega (arith, p)),
      number-field (binary 13 0x18cd) 5 0 (omega arith),
      number-binary 13 0x18cd (omega arith),
    )
    (omega arith))

-- the code's word
pub paging_word : (channel pilot : ℕ) → channel < 8 → pilot < 512 →
    bit_or (bit_or 3408593420288 (channel * 2097152 % 18446744073709551616)) pilot ≡
    (203168 * 8 + channel) * 2097152 + pilot
paging_word channel pilot p q =
    let whole : channel * 2097152 % 18446744073709551616 ≡ channel * 2097152 = omega (arith, p) in
    let head : bit_or (203168 * 2 ^ 24) (channel * 2097152) ≡ 203168 * 2 ^ 24 + channel * 2097152 =
    or_shifted 203168 24 (channel * 2097152) (omega (arith, p)) in
    let sum : 203168 * 2 ^ 24 + channel * 2097152 ≡ (203168 * 8 + channel) * 2 ^ 21 = omega arith in
    ap (λ (n : ℕ). bit_or (bit_or 3408593420288 n) pilot) whole ∙
    ap (λ (n : ℕ). bit_or n pilot) (head ∙ sum) ∙
    or_shifted (203168 * 8 + channel) 21 pilot (omega (arith, q))

-- THE SERIAL NUMBER's bits

low_places : agree_below (λ i. nat_lt (get_or permuted i 0) 32) (λ i. true) 32 ≡ true
low_places = refl

pub place_below : (i : ℕ) → i < 32 → get_or permuted i 0 < 32
place_below i h =
    let e : nat_lt (get_or permuted i 0) 32 ≡ true =
    agree_below_at (λ i. nat_lt (get_or permuted i 0) 32) (λ i. true) 32 i low_places h in
    grind (arith, e)

-- the mask's first bits
abbrev pub first_bits : ℕ → ℕ → List Bool
first_bits esn i = binary 10 792 ++ map (bit_of esn) (take i permuted)

long : (esn i : ℕ) → i ≤ 32 → length (first_bits esn i) ≡ 10 + i
long esn i h =
    length-append (binary 10 792) (map (bit_of esn) (take i permuted))
    ∙ omega (
      arith,
      length-binary 10 792,
      length-map (take i permuted) (bit_of esn),
      length-take-le i permuted (omega (arith, h)),
    )

pub first_bits_lt : (esn i : ℕ) → i ≤ 32 → number (first_bits esn i) < 2 ^ 42
first_bits_lt esn i h =
    let most : 2 ^ length (first_bits esn i) ≤ 2 ^ 42 = pow_mono {j = 42} (omega (arith, long esn i h, h)) in
    omega (arith, number_lt (first_bits esn i), most)

-- One bit more of a private mask is its next bit in order: the mask so far is below 2^42, so
-- nothing is lost when it is shifted up by one, and the bit put below is that of the serial number
-- at the next permuted place.
pub first_bits-more : (esn mask bit i : ℕ) → i < 32 → mask ≡ number (first_bits esn i) →
    bit ≡ bit_and (esn / 2 ^ get_or permuted i 0) 1 →
    bit_or (mask * 2 % 18446744073709551616) bit ≡ number (first_bits esn (i + 1))
first_bits-more esn mask bit i h is read =
    let place = get_or permuted i 0 in
    let low : bit ≡ esn / 2 ^ place % 2 = read ∙ and_mask (esn / 2 ^ place) 1 in
    let small : mask < 2 ^ 42 = rw is (first_bits_lt esn i (omega (arith, h))) in
    let whole : mask * 2 % 18446744073709551616 ≡ mask * 2 ^ 1 = omega (arith, small) in
    let joined : bit_or (mask * 2 % 18446744073709551616) bit ≡ 2 * mask + bit =
    ap (λ (n : ℕ). bit_or n bit) whole ∙ or_shifted mask 1 bit (omega (arith, low)) ∙ omega arith in
    let spelled : first_bits esn (i + 1) ≡ first_bits esn i ++ bit_of esn place ∷ [] =
    ap (λ (ps : List ℕ). binary 10 792 ++ map (bit_of esn) ps) (take_more permuted i 0 (omega (arith, h)))
    ∙ ap (λ (bs : List Bool). binary 10 792 ++ bs) (map-append (bit_of esn) (take i permuted) (place ∷ []))
    ∙ sym (append_assoc (binary 10 792) (map (bit_of esn) (take i permuted)) (bit_of esn place ∷ [])) in
    let digit_is : digit (bit_of esn place) ≡ bit = digit_again (esn / 2 ^ place % 2) (omega arith) ∙
    sym low in
    joined ∙ ap (λ (n : ℕ). 2 * n + bit) is ∙
    ap (λ (d : ℕ). 2 * number (first_bits esn i) + d) (sym digit_is) ∙
    sym (number-push (first_bits esn i) (bit_of esn place)) ∙ ap number (sym spelled)

pub traffic_mask_is : (esn : ℕ) → number (first_bits esn 32) ≡ traffic_mask esn
unfolding traffic_mask
traffic_mask_is esn = refl
