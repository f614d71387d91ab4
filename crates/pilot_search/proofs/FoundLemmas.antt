-- What is found in two ranges is found in both.
use Rattle.pilot_search.proofs.Common.{◌≡◌, ℕ, ◌+◌, ◌<◌, ◌≤◌, Bool, true, false, List, refl, sym, ap, ◌∙◌, subst, ⊎_elim, arith, ◌*◌, ◌/◌}
use Rattle.pilot_search.proofs.Common.{Option, Some, None, IsSome, if◌then◌else◌, nat_lt, div-le_self, div-mul-le_self, mul-div_cancel}
use Rattle.pilot_search.proofs.Common.{le-div, cases_lt, nat_tests, Sample, energy, best_phase, greatest, HasBoundBelow, IsBestIn, IsFound}
use Rattle.pilot_search.proofs.Common.{better_of, worker_start, Best}
use Rattle.pilot_search.proofs.BoundLemmas.{bounds}
use Rattle.pilot_search.proofs.BestPhase.{best_phase-is}

pub at_most_greatest : (samples : List Sample) (k : ℕ) → k < 32768 → energy samples k ≤ greatest samples
at_most_greatest samples k lt = (best_phase-is samples).greatest k (omega arith) lt

-- a phase whose bound is below a value of the word isn't the best
pub left_out : (samples : List Sample) (phase limit : ℕ) → HasBoundBelow samples phase limit →
    limit ≤ greatest samples → IsFound samples phase (phase + 1) None
left_out samples phase limit has low = record {
  real = tt;
  first = λ k from to e.
      let same : k ≡ phase = omega arith in
      let e' : energy samples phase ≡ greatest samples = ap (energy samples) (sym same) ∙ e in
      let under = bounds samples phase (64 * has.0) in
      let strictly = has.2 in
      absurd (omega arith);
}

-- The better of what was found in two ranges is what is found in both together: no phase of either
-- range has a greater energy, and at a tie the left one's phase is taken, which comes before any of
-- the right.
pub both_found : (samples : List Sample) (from middle to : ℕ) (left right : Option Best) →
    from ≤ middle → middle ≤ to → to ≤ 32768 → IsFound samples from middle left → IsFound samples middle to right →
    IsFound samples from to (better_of left right)
both_found samples from middle to None None low high most l r = record {
  real = tt;
  first = λ k a b e. ⊎_elim (λ (lt : k < middle). l.first k a lt e)
      (λ (ge : middle ≤ k). r.first k ge b e) (cases_lt k middle);
}
both_found samples from middle to None (Some y) low high most l r = record {
  real = let q = r.real in (q.0, omega arith, q.2);
  first = λ k a b e. ⊎_elim (λ (lt : k < middle). absurd (l.first k a lt e))
      (λ (ge : middle ≤ k). r.first k ge b e) (cases_lt k middle);
}
both_found samples from middle to (Some x) None low high most l r = record {
  real = let p = l.real in (p.0, p.1, omega arith);
  first = λ k a b e. ⊎_elim (λ (lt : k < middle). l.first k a lt e)
      (λ (ge : middle ≤ k). absurd (r.first k ge b e)) (cases_lt k middle);
}
both_found samples from middle to (Some x) (Some y) low high most l r =
    by_cases (nat_lt x.energy y.energy) refl
  where
    -- Where the right energy is greater, no phase of the left range has the greatest of all. Where
    -- it isn't, a phase of the right range that has the greatest comes after the left one, whose
    -- energy is then as great.
    by_cases : (t : Bool) → nat_lt x.energy y.energy ≡ t → IsFound samples from to (if t then Some y else Some x)
    by_cases true less =
        let p = l.real in let q = r.real in
        let lt : x.energy < y.energy = grind (arith, nat_tests) in
        let top = at_most_greatest samples y.phase (omega arith) in record {
          real = (q.0, omega arith, q.2);
          first = λ k a b e. ⊎_elim (λ (lt' : k < middle). let t = l.first k a lt' e in
              absurd (omega arith)) (λ (ge : middle ≤ k). r.first k ge b e) (cases_lt k middle);
        }
    by_cases false less =
        let p = l.real in let q = r.real in
        let ge' : y.energy ≤ x.energy = grind (arith, nat_tests) in
        let top = at_most_greatest samples x.phase (omega arith) in record {
          real = (p.0, p.1, omega arith);
          first = λ k a b e. ⊎_elim (λ (lt : k < middle). l.first k a lt e)
              (λ (ge : middle ≤ k). let t = r.first k ge b e in
              (omega arith, omega arith)) (cases_lt k middle);
        }

-- what is found among all phases is the best of them
pub best_found : (samples : List Sample) (b : Best) → IsFound samples 0 32768 (Some b) →
    IsBestIn samples 0 32768 b.phase b.energy
best_found samples b h =
    let is = best_phase-is samples in
    let t = h.first (best_phase samples) (omega arith) is.below refl in
    let real = h.real in
    record {
      not_below = omega arith;
      below = real.2;
      measured = real.0;
      greatest = λ k low lt. let g = is.greatest k low lt in let e = t.0 in omega (arith, g, e);
      first = λ k low lt. let g = is.first k low (let le = t.1 in omega (arith, lt, le)) in
          let e = t.0 in omega (arith, g, e);
    }

-- all phases have a best one
pub is_some : (samples : List Sample) (found : Option Best) → IsFound samples 0 32768 found → IsSome found
is_some samples None h = absurd (h.first (best_phase samples) (omega arith) (best_phase-is samples).below refl)
is_some samples (Some b) h = refl

pub start_up : (a b workers : ℕ) → 0 < workers → a ≤ b → worker_start a workers ≤ worker_start b workers
start_up a b workers some le =
    le-div (32768 * a / workers) (32768 * b) workers some (let m = div-mul-le_self (32768 * a) workers in omega arith)

pub start_end : (workers : ℕ) → 0 < workers → worker_start workers workers ≡ 32768
start_end workers some = mul-div_cancel 32768 some

pub start_most : (a workers : ℕ) → 0 < workers → a ≤ workers → worker_start a workers ≤ 32768
start_most a workers some le = rw start_end at (start_up a workers workers some le)

start_none : (workers : ℕ) → worker_start 0 workers ≡ 0
start_none workers = let l = div-le_self 0 workers in omega arith

-- the whole range
pub whole : (samples : List Sample) (workers : ℕ) (found : Option Best) → 0 < workers →
    IsFound samples (worker_start 0 workers) (worker_start (0 + workers) workers) found → IsFound samples 0 32768 found
whole samples workers found some h =
    let e : 0 + workers ≡ workers = omega arith in
    subst (λ (n : ℕ × ℕ). IsFound samples n.0 n.1 found)
    (λ i. (
      start_none workers i,
      (ap (λ (n : ℕ). worker_start n workers) e ∙ start_end workers some) i,
    )) h
