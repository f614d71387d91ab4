-- The places near the best phase, and the phases at them.
use Rattle.pilot_search.proofs.Common.{◌≡◌, ◌≢◌, ℕ, ◌+◌, ◌*◌, ◌<◌, ◌≤◌, true, false, List, [], ◌∷◌, map, refl, sym, ap, ◌∙◌, arith, ℤ, pos}
use Rattle.pilot_search.proofs.Common.{negsuc, ◌-ℤ◌, ⊎_elim, nat_eq, nat_le, list_any, ints, cases_lt, nat_tests, first_places, Sample}
use Rattle.pilot_search.proofs.Common.{IsBestIn, near_place, near_phase_at, near_value, near_deltas, measured_at, IsRound, IsNext, energy}
use Rattle.pilot_search.proofs.Common.{Best, IsGreatestUnless, first_places-none, first_places-more}

-- PLACES AND PHASES
pub place_back : (best place : ℕ) → best < 32768 → place < 65 → near_place best (near_phase_at best place) ≡ place
place_back best place low lt = omega (arith, low, lt)

phase_back : (best phase : ℕ) → best < 32768 → phase < 32768 → near_phase_at best (near_place best phase) ≡ phase
phase_back best phase low lt = omega (arith, low, lt)

middle : (best : ℕ) → best < 32768 → near_phase_at best 32 ≡ best
middle best low = omega (arith, low)

middle_place : (best : ℕ) → near_place best best ≡ 32
middle_place best = omega arith

-- VALUES
value_near : (samples : List Sample) (best phase : ℕ) → near_place best phase ≤ 64 →
    near_value samples best phase ≡ pos (energy samples phase)
value_near samples best phase h =
    let t : nat_le (near_place best phase) 64 ≡ true = grind (arith, nat_tests) in rw t

value_far : (samples : List Sample) (best phase : ℕ) → 64 < near_place best phase →
    near_value samples best phase ≡ negsuc 0
value_far samples best phase h =
    let t : nat_le (near_place best phase) 64 ≡ false = grind (arith, nat_tests) in rw t

-- NUMBERS THAT ARE TAKEN
not_one : (k a : ℕ) → list_any (nat_eq k) (a ∷ []) ≡ false → k ≢ a
not_one k a h = grind (arith, nat_tests)

not_two : (k a b : ℕ) → list_any (nat_eq k) (a ∷ b ∷ []) ≡ false → (k ≢ a) × (k ≢ b)
not_two k a b h = (grind (arith, nat_tests), grind (arith, nat_tests))

free_of_one : (k a : ℕ) → k ≢ a → list_any (nat_eq k) (a ∷ []) ≡ false
free_of_one k a h = grind (arith, nat_tests)

free_of_two : (k a b : ℕ) → k ≢ a → k ≢ b → list_any (nat_eq k) (a ∷ b ∷ []) ≡ false
free_of_two k a b h g = grind (arith, nat_tests)

-- two places have two phases
two_phases : (best p q : ℕ) → best < 32768 → p < 65 → q < 65 → p ≢ q → near_phase_at best p ≢ near_phase_at best q
two_phases best p q low hp hq ne =
    λ same. ne (sym (place_back best p low hp) ∙ ap (near_place best) same ∙
    place_back best q low hq)

abbrev measured_phase : List Sample → ℕ → Best
measured_phase samples phase = record { phase = phase; energy = energy samples phase }

-- what the scan over places says of a phase near the best
compared : (samples : List Sample) (best : ℕ) (round : List Best) (first second place k : ℕ) →
    best < 32768 → IsRound samples best 65 round →
    IsNext round first second 65 place → k < 32768 → near_place best k ≤ 64 →
    k ≢ near_phase_at best first → k ≢ near_phase_at best second →
    32768 * energy samples k + near_phase_at best place ≤ 32768 * energy samples (near_phase_at best place) + k
compared samples best round first second place k low r next lt near not_first not_second =
    let back = phase_back best k low lt in
    let d : Best = measured_at samples best 0 in
    let within : near_place best k < 65 = omega (arith, near) in
    let a : near_place best k ≢ first = λ e. not_first (sym back ∙ ap (near_phase_at best) e) in
    let b : near_place best k ≢ second = λ e. not_second (sym back ∙ ap (near_phase_at best) e) in
    let here = r.measured place d next.below in
    let there = r.measured (near_place best k) d within ∙
    ap (λ (n : ℕ). measured_phase samples n) back in
    let g = next.greatest (near_place best k) d within a b in
    rw (here, there) at g

-- so it is the greatest of the phases that aren't taken
next_is : (samples : List Sample) (best : ℕ) (round : List Best) (first second place : ℕ)
    (taken : List ℕ) → best < 32768 → IsRound samples best 65 round → IsNext round first second 65 place →
    ((k : ℕ) → list_any (nat_eq k) taken ≡ false →
    (k ≢ near_phase_at best first) × (k ≢ near_phase_at best second)) →
    list_any (nat_eq (near_phase_at best place)) taken ≡ false →
    IsGreatestUnless taken (near_value samples best) 32768 (near_phase_at best place)
next_is samples best round first second place taken low r next others free =
    let back = place_back best place low next.below in
    let own = value_near samples best (near_phase_at best place) (let b = next.below in
    omega (arith, back, b)) in
    record {
      below = omega arith;
      free = free;
      greatest = λ k lt open_k. ⊎_elim
          (λ near. let o = others k open_k in
          let c = compared samples best round first second place k low r next lt (omega (arith, near)) o.0 o.1 in
          rw (own, value_near samples best k (omega (arith, near))) (omega (arith, ints, c, lt)))
          (λ far. rw (own, value_far samples best k (omega (arith, far))) (omega (arith, ints)))
          (cases_lt (near_place best k) 65);
      first = λ k less open_k. let lt : k < 32768 = omega (arith, less) in ⊎_elim
          (λ near. let o = others k open_k in
          let c = compared samples best round first second place k low r next lt (omega (arith, near)) o.0 o.1 in
          rw (own, value_near samples best k (omega (arith, near))) (omega (arith, ints, c, less)))
          (λ far. rw (own, value_far samples best k (omega (arith, far))) (omega (arith, ints)))
          (cases_lt (near_place best k) 65);
    }

-- the best phase is the first
best_is : (samples : List Sample) (best most : ℕ) → IsBestIn samples 0 32768 best most →
    IsGreatestUnless [] (near_value samples best) 32768 best
best_is samples best most is =
    let own = value_near samples best best (omega (arith, middle_place best)) in
    let m = is.measured in
    record {
      below = is.below;
      free = refl;
      greatest = λ k lt _. ⊎_elim
          (λ near. let g = is.greatest k (omega arith) lt in
          rw (own, value_near samples best k (omega (arith, near))) (omega (arith, ints, g, m)))
          (λ far. rw (own, value_far samples best k (omega (arith, far))) (omega (arith, ints)))
          (cases_lt (near_place best k) 65);
      first = λ k lt _. ⊎_elim
          (λ near. let g = is.first k (omega arith) lt in
          rw (own, value_near samples best k (omega (arith, near))) (omega (arith, ints, g, m)))
          (λ far. rw (own, value_far samples best k (omega (arith, far))) (omega (arith, ints)))
          (cases_lt (near_place best k) 65);
    }

-- THE FIRST PLACES
one_place : (samples : List Sample) (best most : ℕ) → IsBestIn samples 0 32768 best most →
    first_places 1 (near_value samples best) 32768 ≡ best ∷ []
one_place samples best most is =
    first_places-more 0 (near_value samples best) 32768 best []
    (first_places-none (near_value samples best) 32768) (omega arith) (best_is samples best most is)

-- The two best places near the best phase are that phase and the second one of its round: the
-- second lies at another phase, and no phase of the round that is free comes before it.
two_places : (samples : List Sample) (best most : ℕ) (round : List Best) (second : ℕ) →
    IsBestIn samples 0 32768 best most → IsRound samples best 65 round → IsNext round 32 32 65 second →
    first_places 2 (near_value samples best) 32768 ≡ best ∷ near_phase_at best second ∷ []
two_places samples best most round second is r next =
    let low : best < 32768 = is.below in
    let mid = middle best low in
    let here : near_phase_at best second ≢ best =
    λ e. two_phases best second 32 low next.below (omega arith) next.not_first (e ∙ sym mid) in
    first_places-more 1 (near_value samples best) 32768 (near_phase_at best second) (best ∷ [])
    (one_place samples best most is) (omega arith)
    (next_is samples best round 32 32 second (best ∷ []) low r next
    (λ k free. let ne = not_one k best free in (λ e. ne (e ∙ mid), λ e. ne (e ∙ mid)))
    (free_of_one (near_phase_at best second) best here))

-- The three best places near the best phase are the first two and the third one of its round: the
-- third lies at another phase than both, and no phase of the round that is free of them comes
-- before it.
three_places : (samples : List Sample) (best most : ℕ) (round : List Best) (second third : ℕ) →
    IsBestIn samples 0 32768 best most → IsRound samples best 65 round →
    IsNext round 32 32 65 second → IsNext round 32 second 65 third → first_places 3 (near_value samples best) 32768 ≡
    best ∷ near_phase_at best second ∷ near_phase_at best third ∷ []
three_places samples best most round second third is r next last =
    let low : best < 32768 = is.below in
    let mid = middle best low in
    let here : near_phase_at best third ≢ best =
    λ e. two_phases best third 32 low last.below (omega arith) last.not_first (e ∙ sym mid) in
    let there : near_phase_at best third ≢ near_phase_at best second =
    two_phases best third second low last.below next.below last.not_second in
    first_places-more 2 (near_value samples best) 32768 (near_phase_at best third)
    (best ∷ near_phase_at best second ∷ []) (two_places samples best most round second is r next) (omega arith)
    (next_is samples best round 32 second third (best ∷ near_phase_at best second ∷ []) low r last
    (λ k free. let ne = not_two k best (near_phase_at best second) free in (λ e. ne.0 (e ∙ mid), ne.1))
    (free_of_two (near_phase_at best third) best (near_phase_at best second) here there))

-- THEIR DELTAS
abbrev delta_at : ℕ → ℕ → ℤ
delta_at best phase = pos (near_place best phase) -ℤ pos 32

middle_delta : (best : ℕ) → delta_at best best ≡ pos 0
middle_delta best = let e = middle_place best in rw e

place_delta : (best place : ℕ) → best < 32768 → place < 65 →
    delta_at best (near_phase_at best place) ≡ pos place -ℤ pos 32
place_delta best place low lt = let e = place_back best place low lt in rw e

pub one_delta : (samples : List Sample) (best most : ℕ) → IsBestIn samples 0 32768 best most →
    near_deltas samples best 1 ≡ pos 0 ∷ []
unfolding near_deltas
one_delta samples best most is =
    ap (map (delta_at best)) (one_place samples best most is) ∙
    ap (λ (z : ℤ). z ∷ []) (middle_delta best)

pub two_deltas : (samples : List Sample) (best most : ℕ) (round : List Best) (second : ℕ) →
    IsBestIn samples 0 32768 best most → IsRound samples best 65 round →
    IsNext round 32 32 65 second → near_deltas samples best 2 ≡ pos 0 ∷ (pos second -ℤ pos 32) ∷ []
unfolding near_deltas
two_deltas samples best most round second is r next =
    ap (map (delta_at best)) (two_places samples best most round second is r next)
    ∙ ap (λ (z : ℤ). z ∷ delta_at best (near_phase_at best second) ∷ []) (middle_delta best)
    ∙ ap (λ (z : ℤ). pos 0 ∷ z ∷ []) (place_delta best second is.below next.below)

pub three_deltas : (samples : List Sample) (best most : ℕ) (round : List Best) (second third : ℕ) →
    IsBestIn samples 0 32768 best most → IsRound samples best 65 round →
    IsNext round 32 32 65 second → IsNext round 32 second 65 third →
    near_deltas samples best 3 ≡ pos 0 ∷ (pos second -ℤ pos 32) ∷ (pos third -ℤ pos 32) ∷ []
unfolding near_deltas
three_deltas samples best most round second third is r next last =
    ap (map (delta_at best)) (three_places samples best most round second third is r next last)
    ∙ ap (λ (z : ℤ). z ∷ delta_at best (near_phase_at best second) ∷ delta_at best (near_phase_at best third)
    ∷ []) (middle_delta best)
    ∙ ap (λ (z : ℤ). pos 0 ∷ z ∷ delta_at best (near_phase_at best third) ∷ [])
    (place_delta best second is.below next.below)
    ∙ ap (λ (z : ℤ). pos 0 ∷ (pos second -ℤ pos 32) ∷ z ∷ []) (place_delta best third is.below last.below)
