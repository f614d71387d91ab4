-- Frames of a traffic channel whose symbols no other codeword shares.
use Rattle.clean_link.specs.Common.{places, xor, code_symbols, g0, g1, symbol, address, data_shape}
use Rattle.clean_link.specs.Common.{traffic_codeword, R9600, frame_codeword, IsUnshared, repeats_of}
use Rattle.clean_link.specs.Common.{is_replaced, Rate, codeword_bits, is_dropped, repeated_symbol}
use Rattle.clean_link.specs.Common.{Rate2, frame_bits, binary, R2400, R1200, SetOneFrame}
use Rattle.clean_link.specs.Common.{IsDistinctFrame}
use Rattle.std.specs.Prelude.{◌≡◌, ℕ, zero, suc, ◌+◌, ◌-◌, ◌*◌, Bool, true, false, not, ◌&&◌, List}
use Rattle.std.specs.Prelude.{[], ◌∷◌, ◌++◌, length, map, filter, get_or, drop, replicate, ◌≢◌, ◌/◌}
use Rattle.std.specs.Prelude.{if◌then◌else◌}
use Rattle.std.specs.List.{list_all, list_any, flat_map, range_with_len}
use Rattle.std.proofs.Math.Bool.{beq}
use Rattle.symbol_path.specs.RatesTwo as rates_two
use Rattle.rate_set_two.specs.Laws as laws_two
use Rattle.rate_set_two.specs.TrafficFrames as frames_two

-- the code symbols that are sent at these places
abbrev pub lost_symbols : List ℕ → List ℕ
lost_symbols replaced = map (address data_shape) replaced

-- whether no power control bit replaces a code symbol
abbrev pub is_kept : List ℕ → ℕ → Bool
is_kept lost symbol = not (is_replaced lost symbol)

-- Two codewords that have the same kept symbols add up, place by place, to one whose kept symbols
-- are all 0. Whether the last of nine bits, bit j, is hidden in this way:
abbrev pub is_hidden : List ℕ → ℕ → List Bool → Bool
is_hidden lost j nine =
    not (is_kept lost (2 * j) && symbol g0 nine 0) &&
    not (is_kept lost (2 * j + 1) && symbol g1 nine 0)

-- whether no n bits from bit j on, after these eight, end in eight zeros while all are hidden
unfoldable pub stays_apart : List ℕ → ℕ → ℕ → List Bool → Bool
stays_apart lost zero j eight = list_any (λ bit. bit) eight
stays_apart lost (suc n) j eight =
    list_all (λ nine. stays_apart lost n (j + 1) (drop 1 nine))
    (filter (is_hidden lost j) ((eight ++ false ∷ []) ∷ (eight ++ true ∷ []) ∷ []))

-- whether no 192 hidden bits that end in eight zeros have their first 1 at bit j
abbrev pub is_seen : List ℕ → ℕ → Bool
is_seen lost j =
    list_all (λ nine. stays_apart lost (191 - j) (j + 1) (drop 1 nine))
    (filter (is_hidden lost j) ((replicate 8 false ++ true ∷ []) ∷ []))

-- whether no two codewords of 192 bits that begin after zeros and end in eight zeros have the same
-- kept symbols
abbrev pub tells_all_bits : List ℕ → Bool
tells_all_bits lost = list_all (is_seen lost) (places 192)

-- Whether some bit keeps both of its code symbols, and they differ. At a lower rate both of their
-- places send one code symbol.
abbrev pub shows_full_rate : List ℕ → List Bool → Bool
shows_full_rate lost symbols =
    list_any (λ j. (is_kept lost (2 * j) && is_kept lost (2 * j + 1)) &&
    xor (get_or symbols (2 * j) false) (get_or symbols (2 * j + 1) false)) (places 192)

-- the code symbols of a frame's bits
abbrev pub full_rate_symbols : List Bool → List Bool
full_rate_symbols information =
    code_symbols (replicate 8 false) (traffic_codeword R9600 information)

-- a frame that satisfies both conditions is distinct
abbrev pub FullRateFramesAreDistinct : Type 0
FullRateFramesAreDistinct = (replaced : List ℕ) (information : List Bool) →
    length information ≡ 172 → tells_all_bits (lost_symbols replaced) ≡ true →
    shows_full_rate (lost_symbols replaced) (full_rate_symbols information) ≡ true →
    IsUnshared replaced R9600 (frame_codeword R9600 information)

-- ---- codewords with the symbols that are shown

-- Each repeated symbol that is sent and that no power control bit replaces shows its code symbol.
-- Whether the last of nine bits, bit j, gives what is shown of its code symbols:
abbrev pub gives : (ℕ → List Bool) → ℕ → List Bool → Bool
gives shown j nine =
    list_all (beq (symbol g0 nine 0)) (shown (2 * j)) &&
    list_all (beq (symbol g1 nine 0)) (shown (2 * j + 1))

-- the codewords of n bits, from bit j on after these eight, that give all that is shown of their
-- code symbols and end in eight zeros
unfoldable pub codewords_giving : (ℕ → List Bool) → ℕ → ℕ → List Bool → List (List Bool)
codewords_giving shown zero j eight = if list_any (λ bit. bit) eight then [] else [] ∷ []
codewords_giving shown (suc n) j eight =
    flat_map
    (λ nine. map (λ bits. get_or nine 8 false ∷ bits)
    (codewords_giving shown n (j + 1) (drop 1 nine)))
    (filter (gives shown j) ((eight ++ false ∷ []) ∷ (eight ++ true ∷ []) ∷ []))

-- what a frame's repeated symbols show of code symbol c of a codeword that repeats each of its code
-- symbols `others` times
abbrev pub symbols_known_of : (ℕ → Bool) → List Bool → ℕ → ℕ → ℕ → List Bool
symbols_known_of known symbols repeats others c =
    map (λ k. get_or symbols (k / repeats) false)
    (filter known (range_with_len (others * c) others))

-- the codewords of n bits that share all that is known of a frame's code symbols
abbrev pub codewords_sharing : (ℕ → Bool) → List Bool → ℕ → ℕ → ℕ → List (List Bool)
codewords_sharing known symbols repeats others n =
    codewords_giving (symbols_known_of known symbols repeats others) n 0 (replicate 8 false)

-- Among the codewords of every rate, only the frame's own shares its symbols.
pub record SharesNone {R : Type 0} (sharing : R → List (List Bool)) (rate : R) (bits : List Bool) :
    Type 0 where
  pub own : sharing rate ≡ bits ∷ []
  pub others : (r : R) → r ≢ rate → sharing r ≡ []

-- ---- rate set 1

-- the codewords of rate r that share the symbols, except the lost ones, of a frame with these bits
abbrev pub sharing : List ℕ → Rate → List Bool → Rate → List (List Bool)
sharing lost rate bits r =
    codewords_sharing (is_kept lost) (code_symbols (replicate 8 false) bits)
    (repeats_of rate) (repeats_of r) (frame_bits r)

-- a frame that shares its symbols only with its own codeword is distinct
abbrev pub AreDistinctBySharing : Type 0
AreDistinctBySharing = (replaced : List ℕ) (rate : Rate) (information : List Bool) →
    SharesNone (sharing (lost_symbols replaced) rate (traffic_codeword rate information)) rate
    (traffic_codeword rate information) →
    IsUnshared replaced rate (frame_codeword rate information)

-- ---- rate set 2

-- the repeated symbols that are sent at these places
abbrev pub lost_symbols2 : List ℕ → List ℕ
lost_symbols2 replaced = map repeated_symbol replaced

-- whether a repeated symbol is sent and no power control bit replaces it
abbrev pub is_known2 : List ℕ → ℕ → Bool
is_known2 lost k = not (is_dropped k) && is_kept lost k

abbrev pub sharing2 : List ℕ → Rate2 → List Bool → Rate2 → List (List Bool)
sharing2 lost rate bits r =
    codewords_sharing (is_known2 lost) (code_symbols (replicate 8 false) bits)
    (rates_two.repeats_of2 rate) (rates_two.repeats_of2 r) (rates_two.frame_bits2 r)

abbrev pub AreDistinctBySharing2 : Type 0
AreDistinctBySharing2 = (replaced : List ℕ) (rate : Rate2) (information : List Bool) →
    SharesNone (sharing2 (lost_symbols2 replaced) rate (codeword_bits rate information)) rate
    (codeword_bits rate information) →
    laws_two.IsUnshared2 replaced rate (frames_two.frame_codeword2 rate information)

-- ---- worked frames

-- The places of the symbols that 16 power control bits replace, two of each group of 24. A separate
-- model computes these for the long code's state 2^41 at the frame's first chip, under the mask
-- 0x31891126c01.
abbrev pub replaced_places : List ℕ
replaced_places =
    10 ∷ 11 ∷ 33 ∷ 34 ∷ 54 ∷ 55 ∷ 75 ∷ 76 ∷ 107 ∷ 108 ∷ 127 ∷ 128 ∷ 153 ∷ 154 ∷ 183 ∷ 184
    ∷ 198 ∷ 199 ∷ 224 ∷ 225 ∷ 254 ∷ 255 ∷ 276 ∷ 277 ∷ 294 ∷ 295 ∷ 327 ∷ 328 ∷ 346 ∷ 347 ∷ 368
    ∷ 369 ∷ []

-- 172 information bits
abbrev pub some_information : List Bool
some_information =
    binary 64 0x6eb96f6d68690b65 ++ binary 64 0xaa73026f6b41c7ad ++ binary 44 0x3f68aa22065

-- a frame that orders a handset to lower its power
abbrev pub distinct_frame_with : Rate → List Bool → SetOneFrame
distinct_frame_with rate information = record {
  rate = rate;
  information = information;
  power_bits = replicate 16 true;
}

-- at 9,600 bits a second that frame is distinct
abbrev pub AFullRateFrameIsDistinct : Type 0
AFullRateFrameIsDistinct = IsDistinctFrame replaced_places
    (distinct_frame_with R9600 some_information)

-- Frames of zeros at 2,400 and at 1,200 bits a second aren't distinct, whatever is replaced: they
-- have no quality bits, and all their symbols are 0.
abbrev pub ZerosAreShared : Type 0
ZerosAreShared = (replaced : List ℕ) →
    (IsDistinctFrame replaced (distinct_frame_with R2400 (replicate 40 false)) → ⊥)
    × (IsDistinctFrame replaced (distinct_frame_with R1200 (replicate 16 false)) → ⊥)
