-- A cell with a distinct frame of each rate.
use Rattle.clean_link.proofs.Common.{length, TrafficFrame, IsTrafficFrame, ◌≡◌, ◌≢◌, ℕ, ◌+◌, ◌*◌, ◌^◌, ◌<◌, ◌≤◌, Bool, true, List, [], ◌∷◌}
use Rattle.clean_link.proofs.Common.{map, refl, sym, ap, ◌∙◌, channel_on, arith, subst, Some, All, flat_map, All-cons, All-nil, binary, suc}
use Rattle.clean_link.proofs.Common.{places, norm, Sixteen, after, traffic_mask, after-after, IsState-before, capsule, check_bits, Rate}
use Rattle.clean_link.proofs.Common.{traffic_codeword, R9600, R4800, R2400, R1200, codeword_bits, power_places, Rate2, R14400, R7200, R3600}
use Rattle.clean_link.proofs.Common.{R1800, on_again, sync_body, sync_capsule, IsSyncMessage, split_9600, loudness, AreLawfulBeside, rules}
use Rattle.clean_link.proofs.Common.{IsFreeOf, IsLawfulPlan, IsPagingPlan, IsTrafficPlan, sent_paging_rate, IsStatedPaging, IsReceivable}
use Rattle.clean_link.proofs.Common.{frames_of, cycled_frame, PagingPlan, TrafficPlan, SetOneFrame, SetTwoFrame, lost_symbols, bits_of2}
use Rattle.clean_link.proofs.Common.{distinct_bits_of, distinct_plan, first_channel, frame2_at, frame_at, on_row, second_channel, HasMark}
use Rattle.clean_link.proofs.Common.{told_message, HasSetOne, HasSetTwo, frame_chip, is_received, received_frames, replaced_of, AreDistinct}
use Rattle.clean_link.proofs.Common.{IsDistinctFrame, messages_sent, cycled_frame2, IsDistinctFrame2, signaling_sent, told_with_sync, zero}
use Rattle.clean_link.proofs.Common.{lost_symbols2, sharing, sharing2, codewords_giving, false, get_or, common_parity, digit, long_chip}
use Rattle.clean_link.proofs.Common.{get_or-map-places, flat_map_ext_places, after_lt, after_none, after_one, stepped, after-before, ◌-◌}
use Rattle.clean_link.proofs.Common.{before_lt, after-injective, group_scrambling, power_place, frames_in_turn, power_start, spelling}
use Rattle.long_code.specs.LongCode.{before}
use Rattle.sync_message.proofs.Bodies.{admitted}
use Rattle.traffic_message.specs.Multiplex.{split}
use Rattle.clean_link.proofs.traffic.Frames.{received_lies}
use Rattle.clean_link.proofs.traffic.SharedFrames.{distinct_by_sharing, distinct_by_sharing2}
use Rattle.symbol_path.specs.Scrambling.{scrambling_chips}

-- ---- states

-- the state n chips later, a chip at a time
unfoldable pub walked : ℕ → ℕ → ℕ
walked zero v = v
walked (suc n) v = walked n (stepped v)

pub walked_is : (n v : ℕ) → v < 2 ^ 42 → walked n v ≡ after v n
unfolding walked
walked_is zero v low = sym (after_none v low)
walked_is (suc n) v low =
    let place : 1 + n ≡ suc n = omega arith in
    let next : after v 1 ≡ stepped v = after_one v in
    let small : stepped v < 2 ^ 42 = rw (sym next) (after_lt v 1) in
    walked_is n (stepped v) small
    ∙ ap (λ (w : ℕ). after w n) (sym next) ∙ after-after v 1 n ∙ ap (after v) place

walked_on : (v n m : ℕ) → walked m (after v n) ≡ after v (n + m)
walked_on v n m = walked_is m (after v n) (after_lt v n) ∙ after-after v n m

-- ---- where a group's power control bit begins

abbrev chip_of : ℕ → ℕ → Bool
chip_of mask state = common_parity (binary 42 mask) (binary 42 state)

-- by the last four of the group's 24 scrambling bits
abbrev start_by : Bool → Bool → Bool → Bool → ℕ
start_by a b c d = 8 * digit d + 4 * digit c + 2 * digit b + digit a

abbrev group_start : ℕ → ℕ → ℕ
group_start mask v =
    let a = walked 1280 v in
    let b = walked 64 a in
    let c = walked 64 b in
    let d = walked 64 c in
    start_by (chip_of mask a) (chip_of mask b) (chip_of mask c) (chip_of mask d)

-- the same for n groups, from the state at the first chip of the first of them
abbrev pub starts : ℕ → ℕ → ℕ → List ℕ
starts mask zero v = []
starts mask (suc n) v = group_start mask v ∷ starts mask n (walked 1536 v)

-- a scrambling bit
bit_is : (mask v i : ℕ) → i < 24 → chip_of mask (after v (64 * i)) ≡ get_or (group_scrambling v mask) i false
unfolding scrambling_chips long_chip
bit_is mask v i low = sym (get_or-map-places (λ i. long_chip v mask (64 * i)) 24 i false low)

-- Stepping the long code tells where a group's power control bit begins: its start depends on the
-- last four of the group's 24 scrambling bits, which are the code's chips 1,280, 1,344, 1,408 and
-- 1,472 after the group's first, each of the last three 64 steps after the one before it.
group_start_is : (mask v : ℕ) → v < 2 ^ 42 → group_start mask v ≡ power_start (group_scrambling v mask)
group_start_is mask v low =
    let a : walked 1280 v ≡ after v 1280 = walked_is 1280 v low in
    let b : walked 64 (after v 1280) ≡ after v 1344 = walked_on v 1280 64 in
    let c : walked 64 (after v 1344) ≡ after v 1408 = walked_on v 1344 64 in
    let d : walked 64 (after v 1408) ≡ after v 1472 = walked_on v 1408 64 in
    let p : chip_of mask (after v 1280) ≡ get_or (group_scrambling v mask) 20 false = bit_is mask v 20 (omega arith) in
    let q : chip_of mask (after v 1344) ≡ get_or (group_scrambling v mask) 21 false = bit_is mask v 21 (omega arith) in
    let r : chip_of mask (after v 1408) ≡ get_or (group_scrambling v mask) 22 false = bit_is mask v 22 (omega arith) in
    let s : chip_of mask (after v 1472) ≡ get_or (group_scrambling v mask) 23 false = bit_is mask v 23 (omega arith) in
    rw (a, b, c, d, p, q, r, s) refl

starts_at : (mask n v g : ℕ) → v < 2 ^ 42 → g < n →
    get_or (starts mask n v) g 0 ≡ power_start (group_scrambling (after v (1536 * g)) mask)
starts_at mask zero v g low below = absurd (omega (arith, below))
starts_at mask (suc n) v zero low below =
    let none : 0 ≡ 1536 * 0 = omega arith in
    group_start_is mask v low
    ∙ ap (λ (s : ℕ). power_start (group_scrambling s mask)) (sym (after_none v low) ∙ ap (after v) none)
starts_at mask (suc n) v (suc g) low below =
    let next : walked 1536 v ≡ after v 1536 = walked_is 1536 v low in
    let more : 1536 + 1536 * g ≡ 1536 * suc g = omega arith in
    starts_at mask n (walked 1536 v) g (rw next (after_lt v 1536)) (omega (arith, below))
    ∙ ap (λ (s : ℕ). power_start (group_scrambling (after s (1536 * g)) mask)) next
    ∙ ap (λ (s : ℕ). power_start (group_scrambling s mask)) (after-after v 1536 (1536 * g) ∙ ap (after v) more)

-- ---- all of a frame

abbrev pub pairs_by : List ℕ → List ℕ
pairs_by starts = flat_map (λ g. (24 * g + get_or starts g 0) ∷ (24 * g + get_or starts g 0 + 1) ∷ []) (places 16)

-- back from a group later
back : (v : ℕ) → v < 2 ^ 42 → before (after v 1536) 1536 ≡ v
back v low =
    let s = after v 1536 in
    after-injective (before s 1536) v 1536 (before_lt s 1536) low (after-before s 1536 (after_lt v 1536))

place_is : (mask v g : ℕ) → v < 2 ^ 42 → g < 16 →
    power_place (after v 1536) mask g ≡ 24 * g + get_or (starts mask 16 v) g 0
place_is mask v zero low below =
    let none : 0 ≡ 1536 * 0 = omega arith in
    let first : power_start (group_scrambling (before (after v 1536) 1536) mask)
    ≡ get_or (starts mask 16 v) 0 0 =
    ap (λ (s : ℕ). power_start (group_scrambling s mask)) (back v low ∙ sym (after_none v low) ∙ ap (after v) none)
    ∙ sym (starts_at mask 16 v 0 low (omega arith)) in
    let plain : get_or (starts mask 16 v) 0 0 ≡ 24 * 0 + get_or (starts mask 16 v) 0 0 = omega arith in
    first ∙ plain
place_is mask v (suc g) low below =
    let more : 1536 + 1536 * g ≡ 1536 * suc g = omega arith in
    ap (λ (n : ℕ). 24 * suc g + n)
    (ap (λ (s : ℕ). power_start (group_scrambling s mask)) (after-after v 1536 (1536 * g) ∙ ap (after v) more)
    ∙ sym (starts_at mask 16 v (suc g) low below))

pub places_are : (mask v : ℕ) → v < 2 ^ 42 → power_places (after v 1536) mask ≡ pairs_by (starts mask 16 v)
unfolding power_places
places_are mask v low =
    flat_map_ext_places (λ g. power_place (after v 1536) mask g ∷ (power_place (after v 1536) mask g + 1) ∷ [])
    (λ g. (24 * g + get_or (starts mask 16 v) g 0) ∷ (24 * g + get_or (starts mask 16 v) g 0 + 1)
    ∷ []) 16
    (λ g below. ap (λ (n : ℕ). n ∷ (n + 1) ∷ []) (place_is mask v g low below))

-- ---- the long code

-- the states a group before each of the four frames after the mark
first_state : after (before 1 686592) 688128 ≡ after 1 1536
first_state = on_again 1 686592 1536

-- by 24,576 steps from one to the next
walks : (walked 24576 1 ≡ 2395420971681) × (walked 24576 2395420971681 ≡ 1799602966513)
    × (walked 24576 1799602966513 ≡ 1907663947772)
unfolding walked
walks = (refl, refl, refl)

-- a frame later
frame_on : (n v w : ℕ) → after 1 n ≡ v → v < 2 ^ 42 → walked 24576 v ≡ w → after 1 (n + 24576) ≡ w
frame_on n v w here low walk =
    sym (after-after 1 n 24576) ∙ ap (λ (s : ℕ). after s 24576) here
    ∙ sym (walked_is 24576 v low) ∙ walk

state_1 : after 1 24576 ≡ 2395420971681
state_1 = sym (walked_is 24576 1 (omega arith)) ∙ walks.0

state_2 : after 1 49152 ≡ 1799602966513
state_2 = frame_on 24576 2395420971681 1799602966513 state_1 (omega arith) walks.1

state_3 : after 1 73728 ≡ 1907663947772
state_3 = frame_on 49152 1799602966513 1907663947772 state_2 (omega arith) walks.2

-- so those at the frames
state_at : (n v : ℕ) → after 1 n ≡ v → after (before 1 686592) (686592 + (n + 1536)) ≡ after v 1536
state_at n v here =
    on_again 1 686592 (n + 1536) ∙ sym (after-after 1 n 1536)
    ∙ ap (λ (s : ℕ). after s 1536) here

mask_is : traffic_mask 0x9f1c0a37 ≡ 0x318cc08f34f
unfolding traffic_mask binary
mask_is = refl

-- ---- the places of power control bits

abbrev starts_0 : List ℕ
starts_0 = 8 ∷ 10 ∷ 14 ∷ 0 ∷ 3 ∷ 1 ∷ 4 ∷ 8 ∷ 12 ∷ 0 ∷ 8 ∷ 3 ∷ 1 ∷ 11 ∷ 15 ∷ 1 ∷ []

abbrev starts_1 : List ℕ
starts_1 = 0 ∷ 11 ∷ 3 ∷ 14 ∷ 5 ∷ 15 ∷ 8 ∷ 15 ∷ 10 ∷ 6 ∷ 14 ∷ 1 ∷ 3 ∷ 2 ∷ 13 ∷ 15 ∷ []

abbrev starts_2 : List ℕ
starts_2 = 10 ∷ 14 ∷ 8 ∷ 12 ∷ 3 ∷ 9 ∷ 13 ∷ 3 ∷ 1 ∷ 2 ∷ 2 ∷ 15 ∷ 9 ∷ 6 ∷ 5 ∷ 3 ∷ []

abbrev starts_3 : List ℕ
starts_3 = 15 ∷ 5 ∷ 12 ∷ 15 ∷ 4 ∷ 6 ∷ 9 ∷ 7 ∷ 12 ∷ 6 ∷ 8 ∷ 8 ∷ 6 ∷ 1 ∷ 8 ∷ 13 ∷ []

starts_are : (starts 0x318cc08f34f 16 1 ≡ starts_0) × (starts 0x318cc08f34f 16 2395420971681 ≡ starts_1)
    × (starts 0x318cc08f34f 16 1799602966513 ≡ starts_2) × (starts 0x318cc08f34f 16 1907663947772 ≡ starts_3)
unfolding binary walked
starts_are = (refl, refl, refl, refl)

places_by : (state v : ℕ) (found : List ℕ) → v < 2 ^ 42 → state ≡ after v 1536 → starts 0x318cc08f34f 16 v ≡ found →
    power_places state (traffic_mask 0x9f1c0a37) ≡ pairs_by found
places_by state v found low here are =
    ap (λ (s : ℕ). power_places s (traffic_mask 0x9f1c0a37)) here
    ∙ ap (power_places (after v 1536)) mask_is
    ∙ places_are 0x318cc08f34f v low ∙ ap pairs_by are

abbrev places_in : ℕ → List ℕ
places_in chip = power_places (after (before 1 686592) chip) (traffic_mask 0x9f1c0a37)

places_0 : places_in 688128 ≡ pairs_by starts_0
places_0 = places_by _ 1 starts_0 (omega arith) first_state starts_are.0

places_1 : places_in 712704 ≡ pairs_by starts_1
places_1 = places_by _ _ starts_1 (omega arith) (state_at 24576 2395420971681 state_1) starts_are.1

places_2 : places_in 737280 ≡ pairs_by starts_2
places_2 = places_by _ _ starts_2 (omega arith) (state_at 49152 1799602966513 state_2) starts_are.2

places_3 : places_in 761856 ≡ pairs_by starts_3
places_3 = places_by _ _ starts_3 (omega arith) (state_at 73728 1907663947772 state_3) starts_are.3

-- ---- frames of each rate

-- the places of the frame of each rate
abbrev starts_of : Rate → List ℕ
starts_of R9600 = starts_0
starts_of R4800 = starts_1
starts_of R2400 = starts_2
starts_of R1200 = starts_3

abbrev starts_of2 : Rate2 → List ℕ
starts_of2 R14400 = starts_0
starts_of2 R7200 = starts_1
starts_of2 R3600 = starts_2
starts_of2 R1800 = starts_3

-- the codewords of rate r that share the symbols of that frame
abbrev shared : Rate → Rate → List (List Bool)
shared rate r =
    sharing (lost_symbols (pairs_by (starts_of rate))) rate (traffic_codeword rate (distinct_bits_of rate)) r

abbrev shared2 : Rate2 → Rate2 → List (List Bool)
shared2 rate r = sharing2 (lost_symbols2 (pairs_by (starts_of2 rate))) rate (codeword_bits rate (bits_of2 rate)) r

-- its own,
own : (rate : Rate) → shared rate rate ≡ traffic_codeword rate (distinct_bits_of rate) ∷ []
unfolding binary places check_bits codewords_giving
own R9600 = refl
own rate = refl

own2 : (rate : Rate2) → shared2 rate rate ≡ codeword_bits rate (bits_of2 rate) ∷ []
unfolding binary places check_bits codewords_giving
own2 R14400 = refl
own2 rate = refl

-- and none of another rate
apart : (rate r : Rate) → r ≢ rate → shared rate r ≡ []
unfolding binary places check_bits codewords_giving
apart R9600 R9600 other = absurd (other refl)
apart R4800 R4800 other = absurd (other refl)
apart R2400 R2400 other = absurd (other refl)
apart R1200 R1200 other = absurd (other refl)
apart rate r other = refl

apart2 : (rate r : Rate2) → r ≢ rate → shared2 rate r ≡ []
unfolding binary places check_bits codewords_giving
apart2 R14400 R14400 other = absurd (other refl)
apart2 R7200 R7200 other = absurd (other refl)
apart2 R3600 R3600 other = absurd (other refl)
apart2 R1800 R1800 other = absurd (other refl)
apart2 rate r other = refl

-- ---- which frames are received

-- what is true of frames 28 to 31
by_four : (P : ℕ → Type 0) → P 28 → P 29 → P 30 → P 31 → (k : ℕ) → k < 4 → P (28 + k)
by_four P a b c d zero low = a
by_four P a b c d (suc zero) low = b
by_four P a b c d (suc (suc zero)) low = c
by_four P a b c d (suc (suc (suc zero))) low = d
by_four P a b c d (suc (suc (suc (suc k)))) low = absurd (omega (arith, low))

-- is true of those that are received
received_four : (row : ℕ) (frames : List TrafficFrame) (P : ℕ → Type 0) → P 28 → P 29 → P 30 → P 31 →
    (n : ℕ) → is_received distinct_plan (channel_on row frames) 688128 n ≡ true → P n
received_four row frames P a b c d n received =
    let p = channel_on row frames in
    let offset : p.offset ≡ 0 = refl in
    let lies = received_lies distinct_plan p 688128 n received in
    let begun : 688128 ≤ frame_chip p n = lies.0 in
    let ends : frame_chip p (n + 1) ≤ 786432 = lies.1 in
    let place : 28 + (n - 28) ≡ n = omega (arith, begun, offset) in
    subst P place (by_four P a b c d (n - 28) (omega (arith, begun, ends, offset)))

-- Of a channel with a frame of each of four rates: what is true of each at the places of its power
-- control bits is so of those that are received.
each_of_four : {R F : Type 0} (P : List ℕ → F → Type 0) (found : R → List ℕ) (frame : R → F) →
    ((rate : R) → P (pairs_by (found rate)) (frame rate)) → (a b c d : R) →
    places_in 688128 ≡ pairs_by (found a) → places_in 712704 ≡ pairs_by (found b) →
    places_in 737280 ≡ pairs_by (found c) → places_in 761856 ≡ pairs_by (found d) →
    (row : ℕ) (frames : List TrafficFrame) (n : ℕ) → is_received distinct_plan (channel_on row frames) 688128 n ≡ true →
    All (P (replaced_of distinct_plan (channel_on row frames) n)) (frames_in_turn (map frame (a ∷ b ∷ c ∷ d ∷ [])) n)
each_of_four {R} {F} P found frame each a b c d in_a in_b in_c in_d row frames =
    let here : (rate : R) (chip : ℕ) → places_in chip ≡ pairs_by (found rate) →
    All (P (places_in chip)) (frame rate ∷ []) =
    λ rate chip are. All-cons (P (places_in chip)) (frame rate) []
    (subst (λ (ps : List ℕ). P ps (frame rate)) (sym are) (each rate)) (All-nil (P (places_in chip))) in
    received_four row frames
    (λ n. All (P (replaced_of distinct_plan (channel_on row frames) n))
    (frames_in_turn (map frame (a ∷ b ∷ c ∷ d ∷ [])) n))
    (here a 688128 in_a) (here b 712704 in_b) (here c 737280 in_c) (here d 761856 in_d)

distinct_one : AreDistinct distinct_plan first_channel 688128
distinct_one =
    each_of_four IsDistinctFrame starts_of frame_at
    (λ rate. distinct_by_sharing (pairs_by (starts_of rate)) rate (distinct_bits_of rate)
    (record { own = own rate; others = apart rate }))
    R9600 R4800 R2400 R1200 places_0 places_1 places_2 places_3 8 first_channel.frames

distinct_two : (n : ℕ) → is_received distinct_plan second_channel 688128 n ≡ true →
    All (IsDistinctFrame2 (replaced_of distinct_plan second_channel n))
    (cycled_frame2 (frames_of distinct_plan second_channel) n)
distinct_two =
    each_of_four IsDistinctFrame2 starts_of2 frame2_at
    (λ rate. distinct_by_sharing2 (pairs_by (starts_of2 rate)) rate (bits_of2 rate)
    (record { own = own2 rate; others = apart2 rate }))
    R14400 R7200 R3600 R1800 places_0 places_1 places_2 places_3 9 second_channel.frames

-- ---- the cell

pub told_lawful : IsSyncMessage told_message
told_lawful = admitted told_message (search rules) refl

-- what is true of each of four
all_four : {A : Type 0} (P : A → Type 0) (a b c d : A) → P a → P b → P c → P d → All P (a ∷ b ∷ c ∷ d ∷ [])
all_four P a b c d is_a is_b is_c is_d =
    All-cons P a (b ∷ c ∷ d ∷ []) is_a
    (All-cons P b (c ∷ d ∷ []) is_b (All-cons P c (d ∷ []) is_c (All-cons P d [] is_d (All-nil P))))

sized_one : All IsTrafficFrame first_channel.frames
unfolding binary
sized_one = all_four IsTrafficFrame _ _ _ _ refl refl refl refl

sized_two : All IsTrafficFrame second_channel.frames
unfolding binary
sized_two = all_four IsTrafficFrame _ _ _ _ refl refl refl refl

channel_lawful : (row : ℕ) (frames : List TrafficFrame) → 8 ≤ row → row ≤ 9 →
    1 ≤ length frames → All IsTrafficFrame frames → IsTrafficPlan (channel_on row frames)
channel_lawful row frames least most some sized = record {
  first = omega (arith, least);
  last = omega (arith, most);
  other = omega (arith, most);
  latest = omega arith;
  gain = omega arith;
  some = some;
  sized = sized;
}

channels_lawful : AreLawfulBeside [] (first_channel ∷ second_channel ∷ [])
channels_lawful = record {
  few = omega arith;
  are = All-cons IsTrafficPlan first_channel (second_channel ∷ [])
      (channel_lawful 8 first_channel.frames (omega arith) (omega arith) (omega arith) sized_one)
      (All-cons IsTrafficPlan second_channel []
      (channel_lawful 9 second_channel.frames (omega arith) (omega arith) (omega arith) sized_two)
      (All-nil IsTrafficPlan));
  apart = (
    All-cons (λ (u : TrafficPlan). u.row ≢ 8) second_channel [] (omega arith)
        (All-nil (λ (u : TrafficPlan). u.row ≢ 8)),
    (All-nil (λ (u : TrafficPlan). u.row ≢ 9), tt),
  );
  free = All-nil
      (λ (p : PagingPlan). IsFreeOf (first_channel ∷ second_channel ∷ []) p.number);
}

plan_lawful : IsLawfulPlan Sixteen distinct_plan
plan_lawful = record {
  pn = omega arith;
  time = omega arith;
  lc = IsState-before 1 686592 (omega arith, omega arith);
  start = omega arith;
  samples = omega arith;
  pilot = omega arith;
  sync = (omega arith, told_lawful);
  few = omega arith;
  paging = All-nil (IsPagingPlan (sent_paging_rate distinct_plan.sync));
  apart = tt;
  traffic = channels_lawful;
  loud = let loud : loudness distinct_plan ≡ 510 = refl in omega (arith, loud);
}

receivable : IsReceivable Sixteen distinct_plan
receivable = record {
  lawful = plan_lawful;
  link = let size : norm distinct_plan.link.factor ≡ 9 = refl in omega (arith, size);
  pages = All-nil (IsStatedPaging (sent_paging_rate distinct_plan.sync));
}

told_is : told_with_sync distinct_plan distinct_plan.sync ≡ Some 7
unfolding sync_capsule sync_body spelling capsule check_bits places binary
told_is = refl

-- ---- the laws

pub has_mark : HasMark
has_mark = (receivable, told_is)

only_seven : (n : ℕ) → told_with_sync distinct_plan distinct_plan.sync ≡ Some n → n ≡ 7
only_seven n told = let same : Some n ≡ Some 7 = sym told ∙ told_is in cc

rates_one : flat_map
    (λ frame. map (λ (f : SetOneFrame). f.rate)
    (cycled_frame (frames_of distinct_plan first_channel) frame))
    (received_frames distinct_plan first_channel 688128) ≡ R9600 ∷ R4800 ∷ R2400 ∷ R1200 ∷ []
unfolding places
rates_one = refl

rates_two : flat_map
    (λ frame. map (λ (f : SetTwoFrame). f.rate)
    (cycled_frame2 (frames_of distinct_plan second_channel) frame))
    (received_frames distinct_plan second_channel 688128) ≡ R14400 ∷ R7200 ∷ R3600 ∷ R1800 ∷ []
unfolding places
rates_two = refl

silent : signaling_sent distinct_plan (Some (on_row 8)) ≡ []
unfolding signaling_sent messages_sent split split_9600 sync_capsule sync_body spelling capsule
    check_bits places binary
silent = refl

pub has_set_one : HasSetOne
has_set_one = record {
  followed = record {
    sent = (0, omega arith, refl);
    assigned = record { row = refl; esn = refl; offset = refl };
    one = omega arith;
    distinct = λ superframes told.
        subst (λ (n : ℕ). AreDistinct distinct_plan first_channel (98304 * n))
        (sym (only_seven superframes told)) distinct_one;
  };
  rates = rates_one;
  silent = silent;
}

pub has_set_two : HasSetTwo
has_set_two = record {
  sent = (1, omega arith, refl);
  assigned = record { row = refl; esn = refl; offset = refl };
  two = omega arith;
  distinct = distinct_two;
  rates = rates_two;
}
