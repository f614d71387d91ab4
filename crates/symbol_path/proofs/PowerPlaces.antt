-- The 32 places of the power control bits, two to a group.
use Rattle.symbol_path.proofs.Common.{◌≡◌, ◌≢◌, ℕ, zero, suc, ◌+◌, ◌*◌, ◌/◌, ◌%◌, ◌<◌, ◌≤◌, Bool, false, List, [], ◌∷◌, length, get_or, set}
use Rattle.symbol_path.proofs.Common.{refl, sym, ap, ◌∙◌, arith, below_more, ⊎_elim, ◌⊎◌, inl, inr, flat_map, range_with_len, digit_le}
use Rattle.symbol_path.proofs.Common.{get_or-set_same, get_or-set_other, length-set, nil_from_length, places_is, after, before, power_start}
use Rattle.symbol_path.proofs.Common.{group_scrambling, power_place, power_places}

pub power_start_lt : (bits : List Bool) → power_start bits < 16
power_start_lt bits =
    omega (
      arith,
      digit_le (get_or bits 23 false),
      digit_le (get_or bits 22 false),
      digit_le (get_or bits 21 false),
      digit_le (get_or bits 20 false),
    )

-- f gives a place in the first 16 of each group of 24
pub record IsInGroups (f : ℕ → ℕ) : Type 0 where
  pub low : (g : ℕ) → 24 * g ≤ f g
  pub high : (g : ℕ) → f g < 24 * g + 16

power_place_low : (state mask g : ℕ) → 24 * g ≤ power_place state mask g
power_place_low state mask zero = omega arith
power_place_low state mask (suc g) = omega arith

power_place_high : (state mask g : ℕ) → power_place state mask g < 24 * g + 16
power_place_high state mask zero = power_start_lt (group_scrambling (before state 1536) mask)
power_place_high state mask (suc g) = omega (arith, power_start_lt (group_scrambling (after state (1536 * g)) mask))

pub power_place_in_groups : (state mask : ℕ) → IsInGroups (power_place state mask)
power_place_in_groups state mask = record { low = power_place_low state mask; high = power_place_high state mask }

-- of 32 places the first 2 n are f's, each with its neighbour
pub record ArePairs (f : ℕ → ℕ) (xs : List ℕ) (n : ℕ) : Type 0 where
  pub long : length xs ≡ 32
  pub first : (g : ℕ) → g < n → get_or xs (2 * g) 0 ≡ f g
  pub second : (g : ℕ) → g < n → get_or xs (2 * g + 1) 0 ≡ f g + 1

-- one pair more
pub pairs_more : (f : ℕ → ℕ) (xs : List ℕ) (n one two v : ℕ) → one ≡ 2 * n → two ≡ 2 * n + 1 → n < 16 → v ≡ f n →
    ArePairs f xs n → ArePairs f (set (set xs one v) two (v + 1)) (n + 1)
pairs_more f xs n one two v p q small is pairs =
    let ys = set xs one v in
    let zs = set ys two (v + 1) in
    let long_ys : length ys ≡ 32 = length-set xs one v ∙ pairs.long in
    let here : get_or zs (2 * n) 0 ≡ f n =
    let other : 2 * n ≢ two = omega (arith, q) in
    let within : one < length xs = omega (arith, pairs.long, p, small) in
    get_or-set_other ys two (2 * n) (v + 1) 0 other ∙ ap (λ (k : ℕ). get_or ys k 0) (sym p) ∙
    get_or-set_same xs one v 0 within ∙ is in
    let next : get_or zs (2 * n + 1) 0 ≡ f n + 1 =
    let within : two < length ys = omega (arith, long_ys, q, small) in
    ap (λ (k : ℕ). get_or zs k 0) (sym q) ∙ get_or-set_same ys two (v + 1) 0 within ∙
    ap (λ (k : ℕ). k + 1) is in
    record {
      long = length-set ys two (v + 1) ∙ long_ys;
      first = below_more (λ g. get_or zs (2 * g) 0 ≡ f g) n
          (λ g lt.
          let other : 2 * g ≢ two = omega (arith, q, lt) in
          let apart : 2 * g ≢ one = omega (arith, p, lt) in
          get_or-set_other ys two (2 * g) (v + 1) 0 other ∙
          get_or-set_other xs one (2 * g) v 0 apart ∙ pairs.first g lt)
          here;
      second = below_more (λ g. get_or zs (2 * g + 1) 0 ≡ f g + 1) n
          (λ g lt.
          let other : 2 * g + 1 ≢ two = omega (arith, q, lt) in
          let apart : 2 * g + 1 ≢ one = omega (arith, p, lt) in
          get_or-set_other ys two (2 * g + 1) (v + 1) 0 other ∙
          get_or-set_other xs one (2 * g + 1) v 0 apart ∙ pairs.second g lt)
          next;
    }

-- a list of pairs, from a on
pairs_from : (f : ℕ → ℕ) (a n : ℕ) (xs : List ℕ) → length xs ≡ 2 * n →
    ((g : ℕ) → g < n → get_or xs (2 * g) 0 ≡ f (a + g)) → ((g : ℕ) → g < n → get_or xs (2 * g + 1) 0 ≡ f (a + g) + 1) →
    xs ≡ flat_map (λ g. f g ∷ (f g + 1) ∷ []) (range_with_len a n)
pairs_from f a zero xs long first second = nil_from_length xs long
pairs_from f a (suc n) [] long first second = absurd (omega (arith, long))
pairs_from f a (suc n) (x ∷ []) long first second = absurd (omega (arith, long))
pairs_from f a (suc n) (x ∷ y ∷ xs) long first second =
    let start : a + 0 ≡ a = omega arith in
    let one : x ≡ f a = first 0 (omega arith) ∙ ap f start in
    let two : y ≡ f a + 1 = second 0 (omega arith) ∙ ap (λ (k : ℕ). f k + 1) start in
    let rest : xs ≡ flat_map (λ g. f g ∷ (f g + 1) ∷ []) (range_with_len (a + 1) n) =
    pairs_from f (a + 1) n xs (omega (arith, long))
    (λ g lt.
    let place : 2 * suc g ≡ suc (suc (2 * g)) = omega arith in
    let turned : a + suc g ≡ a + 1 + g = omega arith in
    ap (λ (k : ℕ). get_or (x ∷ y ∷ xs) k 0) (sym place) ∙ first (suc g) (omega (arith, lt)) ∙
    ap f turned)
    (λ g lt.
    let place : 2 * suc g + 1 ≡ suc (suc (2 * g + 1)) = omega arith in
    let turned : a + suc g ≡ a + 1 + g = omega arith in
    ap (λ (k : ℕ). get_or (x ∷ y ∷ xs) k 0) (sym place) ∙ second (suc g) (omega (arith, lt)) ∙
    ap (λ (k : ℕ). f k + 1) turned) in
    rw (one, two, rest)

pub pairs_all : (state mask : ℕ) (xs : List ℕ) → ArePairs (power_place state mask) xs 16 → xs ≡ power_places state mask
unfolding power_places
pairs_all state mask xs pairs =
    pairs_from (power_place state mask) 0 16 xs pairs.long
    (λ g lt. pairs.first g lt ∙ ap (power_place state mask) (omega arith))
    (λ g lt. pairs.second g lt ∙ ap (λ (k : ℕ). power_place state mask k + 1) (omega arith))
    ∙ ap (flat_map (λ g. power_place state mask g ∷ (power_place state mask g + 1) ∷ [])) (sym (places_is 16))

even_or_odd : (k : ℕ) → (2 * (k / 2) ≡ k) ⊎ (2 * (k / 2) + 1 ≡ k)
even_or_odd k = by_rest (k % 2) refl (omega arith)
  where
    by_rest : (r : ℕ) → k % 2 ≡ r → r < 2 → (2 * (k / 2) ≡ k) ⊎ (2 * (k / 2) + 1 ≡ k)
    by_rest zero e h = inl (omega (arith, e))
    by_rest (suc zero) e h = inr (omega (arith, e))
    by_rest (suc (suc r)) e h = absurd (omega (arith, h))

-- the pairs rise
pub pairs_rise : (f : ℕ → ℕ) (xs : List ℕ) → IsInGroups f → ArePairs f xs 16 → (k : ℕ) →
    k + 1 < length xs → get_or xs k 0 < get_or xs (k + 1) 0
pairs_rise f xs groups pairs k h =
    let g = k / 2 in
    ⊎_elim
    (λ (even : 2 * g ≡ k).
    let low : g < 16 = omega (arith, h, pairs.long, even) in
    let first : get_or xs k 0 ≡ f g = rw even at (pairs.first g low) in
    let second : get_or xs (k + 1) 0 ≡ f g + 1 = rw even at (pairs.second g low) in
    omega (arith, first, second))
    (λ (odd : 2 * g + 1 ≡ k).
    let low : g + 1 < 16 = omega (arith, h, pairs.long, odd) in
    let place : 2 * (g + 1) ≡ k + 1 = omega (arith, odd) in
    let second : get_or xs k 0 ≡ f g + 1 = rw odd at (pairs.second g (omega (arith, low))) in
    let next : get_or xs (k + 1) 0 ≡ f (g + 1) = rw place at (pairs.first (g + 1) low) in
    omega (arith, second, next, groups.high g, groups.low (g + 1)))
    (even_or_odd k)

pub pairs_below : (f : ℕ → ℕ) (xs : List ℕ) → IsInGroups f → ArePairs f xs 16 → (k : ℕ) →
    k < length xs → get_or xs k 0 < 384
pairs_below f xs groups pairs k h =
    let g = k / 2 in
    let low : g < 16 = omega (arith, h, pairs.long) in
    ⊎_elim
    (λ (even : 2 * g ≡ k).
    let first : get_or xs k 0 ≡ f g = rw even at (pairs.first g low) in
    omega (arith, first, groups.high g, low))
    (λ (odd : 2 * g + 1 ≡ k).
    let second : get_or xs k 0 ≡ f g + 1 = rw odd at (pairs.second g low) in
    omega (arith, second, groups.high g, low))
    (even_or_odd k)

pub pairs_in_groups : (f : ℕ → ℕ) (xs : List ℕ) → IsInGroups f → ArePairs f xs 16 → (g : ℕ) →
    g < 16 → (24 * g ≤ get_or xs (2 * g) 0) × (get_or xs (2 * g) 0 < 24 * g + 16)
pairs_in_groups f xs groups pairs g h =
    let first = pairs.first g h in
    (omega (arith, first, groups.low g), omega (arith, first, groups.high g))

pub pairs_neighbours : (f : ℕ → ℕ) (xs : List ℕ) → ArePairs f xs 16 → (g : ℕ) → g < 16 →
    get_or xs (2 * g + 1) 0 ≡ get_or xs (2 * g) 0 + 1
pairs_neighbours f xs pairs g h = pairs.second g h ∙ ap (λ (k : ℕ). k + 1) (sym (pairs.first g h))
