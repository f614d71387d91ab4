-- The repeated symbols that are sent.
use Rattle.symbol_path.proofs.Common.{◌≡◌, ℕ, ◌+◌, ◌*◌, ◌/◌, ◌%◌, ◌<◌, ◌&&◌, ◌||◌, Bool, true, false, [], ◌∷◌, get_or, refl, sym, ap, ◌∙◌}
use Rattle.symbol_path.proofs.Common.{nat_eq, nat_lt, not, agree_below, agree_below_at, and_parts, eqb-true, ltb-true, repeats_of2, address}
use Rattle.symbol_path.proofs.Common.{data_shape, place, Data, Rate2, R14400, R7200, R3600, R1800, symbols_of, kept_symbol, repeated_symbol}
use Rattle.symbol_path.proofs.Common.{place2, is_dropped, IsKeptOnce, IsDropped, not-true}
use Rattle.symbol_path.proofs.Interleaving.{symbol_lt}
use Rattle.symbol_path.proofs.Permutation.{address_lt, place_lt, address-place, address-injective}

-- as which symbol a repeated symbol is kept
abbrev kept_as : ℕ → ℕ
kept_as k = 4 * (k / 6) + get_or (0 ∷ 1 ∷ 0 ∷ 2 ∷ 0 ∷ 3 ∷ []) (k % 6) 0

-- there and back from a kept symbol, which isn't one of the dropped
abbrev is_back : ℕ → Bool
is_back a =
    (nat_lt (kept_symbol a) 576 && nat_eq (kept_as (kept_symbol a)) a)
    && not (is_dropped (kept_symbol a))

kept_all : agree_below is_back (λ a. true) 384 ≡ true
kept_all = refl

kept_back : (a : ℕ) → a < 384 → is_back a ≡ true
kept_back a h = agree_below_at is_back (λ a. true) 384 a kept_all h

-- and back and there from a repeated one that isn't
abbrev is_there : ℕ → Bool
is_there k = is_dropped k || (nat_lt (kept_as k) 384 && nat_eq (kept_symbol (kept_as k)) k)

repeated_all : agree_below is_there (λ k. true) 576 ≡ true
repeated_all = refl

either : (a b : Bool) → (a || b) ≡ true → a ≡ false → b ≡ true
either true b h e = cc
either false b h e = h

repeated_there : (k : ℕ) → k < 576 → is_dropped k ≡ false →
    (nat_lt (kept_as k) 384 && nat_eq (kept_symbol (kept_as k)) k) ≡ true
repeated_there k h e =
    either (is_dropped k) (nat_lt (kept_as k) 384 && nat_eq (kept_symbol (kept_as k)) k)
    (agree_below_at is_there (λ k. true) 576 k repeated_all h) e

pub kept_lt : (a : ℕ) → a < 384 → kept_symbol a < 576
kept_lt a h = ltb-true _ _ (and_parts _ _ (and_parts _ _ (kept_back a h)).0).0

-- No two of the 384 symbols are kept from the same repeated one, since `kept_as` leads back from
-- the repeated symbol to each of them.
kept-injective : (a b : ℕ) → a < 384 → b < 384 → kept_symbol a ≡ kept_symbol b → a ≡ b
kept-injective a b p q e =
    let here : kept_as (kept_symbol a) ≡ a = eqb-true _ _ (and_parts _ _ (and_parts _ _ (kept_back a p)).0).1 in
    let there : kept_as (kept_symbol b) ≡ b = eqb-true _ _ (and_parts _ _ (and_parts _ _ (kept_back b q)).0).1 in
    sym here ∙ ap kept_as e ∙ there

-- each code symbol is repeated so often that all fill a frame
symbols_fill : (rate : Rate2) → symbols_of rate * repeats_of2 rate ≡ 576
symbols_fill R14400 = refl
symbols_fill R7200 = refl
symbols_fill R3600 = refl
symbols_fill R1800 = refl

-- each code symbol that is sent is one of the frame's
pub place2_lt : (rate : Rate2) (i : ℕ) → i < 384 → place2 rate i < symbols_of rate
place2_lt rate i h =
    symbol_lt (repeated_symbol i) (symbols_of rate) (repeats_of2 rate) 576 (symbols_fill rate)
    (kept_lt (address data_shape i) (address_lt Data i h))

pub dropped : IsDropped
dropped i h =
    let a = address data_shape i in
    not-true (is_dropped (kept_symbol a)) (and_parts _ _ (kept_back a (address_lt Data i h))).1

-- A repeated symbol that isn't dropped is sent at just one place of a frame: it is kept as one of
-- 384, by a map that is one to one, and the interleaver sends each of these at a place of its own.
pub kept_once : IsKeptOnce
kept_once k h e =
    let both = and_parts _ _ (repeated_there k h e) in
    let a = kept_as k in
    let low : a < 384 = ltb-true _ _ both.0 in
    let is : kept_symbol a ≡ k = eqb-true _ _ both.1 in
    let there : address data_shape (place data_shape a) ≡ a = address-place Data a low in
    let sent : repeated_symbol (place data_shape a) ≡ k = ap kept_symbol there ∙ is in
    record {
      sent_as = place data_shape a;
      below = place_lt Data a low;
      is = sent;
      alone = λ i lt same.
          address-injective Data i (place data_shape a) lt (place_lt Data a low)
          (kept-injective (address data_shape i) (address data_shape (place data_shape a))
          (address_lt Data i lt) (address_lt Data (place data_shape a) (place_lt Data a low))
          (same ∙ sym sent));
    }
