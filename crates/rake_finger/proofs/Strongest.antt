-- The strength of a pilot: the greatest energy of a window of phases.
use Rattle.rake_finger.proofs.Common.{◌≡◌, ℕ, ◌+◌, ◌-◌, ◌*◌, ◌/◌, ◌%◌, ◌<◌, ◌≤◌, List, [], ◌∷◌, ◌++◌, length, take, drop, ap, ◌∙◌, arith, ℤ}
use Rattle.rake_finger.proofs.Common.{length-drop, ◌^◌, pos, ◌-ℤ◌, unsigned_abs, mul-le-mul, ints, All-head, All-tail, take-append-le, norm}
use Rattle.rake_finger.proofs.Common.{drop-append-le, sum_of, Pair, Sample, phase_correlation, energy, samples_before, window_energy}
use Rattle.rake_finger.proofs.Common.{Strength, strength, IsStrongest, IsNarrow}
use Rattle.std.specs.List.{All}
use Rattle.chip_core.specs.Sums.{IsFirstGreatest, first_greatest}
use Rattle.chip_core.proofs.Greatest.{takes, keeps, starts, only, first_greatest-is}
use Rattle.pilot_search.specs.Bounds.{magnitudes, square_of, bound}
use Rattle.pilot_search.proofs.BoundLemmas.{bounds, nothing_yet, despread_mod}

-- PHASES

pub energy_again : (samples : List Sample) (a b : ℕ) → a % 32768 ≡ b % 32768 → energy samples a ≡ energy samples b
unfolding energy phase_correlation
energy_again samples a b e = ap (λ (ps : List Pair). norm (sum_of ps)) (despread_mod samples a b e)

-- THE STRONGEST
pub strongest_one : (samples : List Sample) (lowest most : ℕ) → most ≡ energy samples lowest →
    IsStrongest samples lowest 1 0 most
strongest_one samples lowest most is =
    let e : lowest + 0 ≡ lowest = omega arith in
    record { first = starts (λ i. pos (energy samples (lowest + i))); measured = rw e is }

-- one phase more, of greater energy than those before
pub strongest_takes : (samples : List Sample) (lowest count best most found : ℕ) →
    IsStrongest samples lowest count best most → found ≡ energy samples (lowest + count) →
    most < found → IsStrongest samples lowest (count + 1) count found
strongest_takes samples lowest count best most found h is more =
    let m = h.measured in
    record {
      first = takes (λ i. pos (energy samples (lowest + i))) count best h.first
          (omega (arith, ints, m, is, more));
      measured = is;
    }

pub strongest_keeps : (samples : List Sample) (lowest count best most found : ℕ) →
    IsStrongest samples lowest count best most → found ≡ energy samples (lowest + count) →
    found ≤ most → IsStrongest samples lowest (count + 1) best most
strongest_keeps samples lowest count best most found h is less =
    let m = h.measured in
    record {
      first = keeps (λ i. pos (energy samples (lowest + i))) count best h.first
          (omega (arith, ints, m, is, less));
      measured = m;
    }

-- the first of the greatest, by another form of the values
first_of_same : (f g : ℕ → ℤ) (n best : ℕ) → ((k : ℕ) → f k ≡ g k) → IsFirstGreatest f n best → IsFirstGreatest g n best
first_of_same f g n best same h = record {
  below = h.below;
  greatest = λ k lt. rw (same k, same best) at (h.greatest k lt);
  first = λ k lt. rw (same k, same best) at (h.first k lt);
}

-- what is strongest of a window is its strength
strongest_place : (samples : List Sample) (phase window lowest place most : ℕ) →
    window ≤ 32768 → lowest ≡ phase + 32768 - window / 2 → IsStrongest samples lowest (window + 1) place most →
    place ≡ first_greatest (λ i. pos (window_energy samples phase window i)) (window + 1)
strongest_place samples phase window lowest place most few low h =
    let same : (k : ℕ) →
    pos (energy samples (lowest + k)) ≡ pos (window_energy samples phase window k) =
    λ k. let e : lowest + k ≡ phase + 32768 + k - window / 2 = omega (arith, low, few) in
    ap (λ (n : ℕ). pos (energy samples n)) e in
    only (λ i. pos (window_energy samples phase window i)) (window + 1) place
    (first_of_same (λ i. pos (energy samples (lowest + i)))
    (λ i. pos (window_energy samples phase window i)) (window + 1) place same h.first)

pub strongest_energy : (samples : List Sample) (phase window lowest place most : ℕ) →
    window ≤ 32768 → lowest ≡ phase + 32768 - window / 2 → IsStrongest samples lowest (window + 1) place most →
    most ≡ (strength samples phase window).energy
unfolding strength
strongest_energy samples phase window lowest place most few low h =
    let e : lowest + place ≡ phase + 32768 + place - window / 2 = omega (arith, low, few) in
    h.measured ∙ ap (energy samples) e
    ∙ ap (window_energy samples phase window) (strongest_place samples phase window lowest place most few low h)

pub strongest_delta : (samples : List Sample) (phase window lowest place most : ℕ) →
    window ≤ 32768 → lowest ≡ phase + 32768 - window / 2 → IsStrongest samples lowest (window + 1) place most →
    pos place -ℤ pos (window / 2) ≡ (strength samples phase window).delta
unfolding strength
strongest_delta samples phase window lowest place most few low h =
    ap (λ (n : ℕ). pos n -ℤ pos (window / 2)) (strongest_place samples phase window lowest place most few low h)

-- BOUNDS
magnitudes_most : (samples : List Sample) → All IsNarrow samples → magnitudes samples ≤ 65536 * length samples
magnitudes_most [] h = omega arith
magnitudes_most (s ∷ samples) h =
    let here : IsNarrow s = All-head IsNarrow s samples h in
    let rest = magnitudes_most samples (All-tail IsNarrow s samples h) in
    omega (arith, here, rest)

-- Up to 512 samples of 16 bits have an energy of at most 2^51: it is at most the bound that holds
-- before any sample is summed, twice the square of the sum of all magnitudes, and that sum is at
-- most 2^25.
pub energy_most : (samples : List Sample) (phase : ℕ) → length samples ≤ 512 →
    All IsNarrow samples → energy samples phase ≤ 2 ^ 51
energy_most samples phase few h =
    let left = magnitudes samples in
    let most = magnitudes_most samples h in
    let small : left ≤ 2 ^ 25 = omega (arith, most, few) in
    let squares : left * left ≤ 2 ^ 25 * 2 ^ 25 = mul-le-mul small small in
    let none = nothing_yet samples phase in
    let over : energy samples phase ≤ bound samples phase 0 = bounds samples phase 0 in
    let whole : bound samples phase 0 ≡ square_of (0 + left) + square_of (0 + left) =
    ap (λ (p : Pair). square_of (unsigned_abs p.i + left) + square_of (unsigned_abs p.q + left))
    none in
    let same : 0 + left ≡ left = omega arith in
    let most_of_all = rw same at whole in
    omega (arith, over, most_of_all, squares)

-- LAWS
abbrev strength_of : ℕ → ℤ → Strength
strength_of most delta = record { energy = most; delta = delta }

-- only the phase modulo the code's period counts
pub strength_again : (samples : List Sample) (a b window : ℕ) → window ≤ 65536 →
    a % 32768 ≡ b % 32768 → strength samples a window ≡ strength samples b window
unfolding strength
strength_again samples a b window few e =
    let f = λ (i : ℕ). pos (window_energy samples a window i) in
    let g = λ (i : ℕ). pos (window_energy samples b window i) in
    let place = first_greatest f (window + 1) in
    let same : (i : ℕ) → window_energy samples a window i ≡ window_energy samples b window i =
    λ i. energy_again samples (a + 32768 + i - window / 2) (b + 32768 + i - window / 2) (omega (arith, few, e)) in
    let first : place ≡ first_greatest g (window + 1) =
    only g (window + 1) place (first_of_same f g (window + 1) place (λ i. ap (λ (n : ℕ). pos n) (same i))
    (first_greatest-is f (window + 1) (omega arith))) in
    ap (λ (n : ℕ). strength_of n (pos place -ℤ pos (window / 2))) (same place)
    ∙ ap (λ (n : ℕ). strength_of (window_energy samples b window n) (pos n -ℤ pos (window / 2)))
    first

-- what comes after a place changes nothing before it
pub samples_before-append : (heard more : List Sample) (end : ℕ) → 512 ≤ end →
    end ≤ length heard → samples_before (heard ++ more) end ≡ samples_before heard end
samples_before-append heard more end begun within =
    let long = length-drop (end - 512) heard in
    ap (take 512) (drop-append-le (end - 512) heard more (omega (arith, within)))
    ∙ take-append-le 512 (drop (end - 512) heard) more (omega (arith, long, begun, within))
