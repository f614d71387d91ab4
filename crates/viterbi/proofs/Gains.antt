-- What two symbols add to the score, by a state's code.
use Rattle.viterbi.proofs.Common.{◌≡◌, ℕ, zero, suc, ◌+◌, ◌<◌, ◌≤◌, ◌^◌, [], ◌∷◌, get_or, arith, ℤ, pos, ◌+ℤ◌, ◌-ℤ◌, unsigned_abs, to_z}
use Rattle.viterbi.proofs.Common.{of_z, w64, ints, gain_by}

pub gains_are : (f s : ℤ) → unsigned_abs f + unsigned_abs s ≤ 2 ^ 62 → (c : ℕ) → c < 4 →
    get_or {A = ℤ} (to_z w64 (of_z w64 (to_z w64 (of_z w64 f) +ℤ to_z w64 (of_z w64 s)))
    ∷ to_z w64 (of_z w64 (to_z w64 (of_z w64 s) -ℤ to_z w64 (of_z w64 f)))
    ∷ to_z w64 (of_z w64 (to_z w64 (of_z w64 f) -ℤ to_z w64 (of_z w64 s)))
    ∷ to_z w64
    (of_z w64 (to_z w64 (of_z w64 (pos 0 -ℤ to_z w64 (of_z w64 f))) -ℤ to_z w64 (of_z w64 s))) ∷ [])
    c (pos 0) ≡ gain_by f s c
unfolding gain_by
gains_are f s h zero b = omega (arith, ints)
gains_are f s h (suc zero) b = omega (arith, ints)
gains_are f s h (suc (suc zero)) b = omega (arith, ints)
gains_are f s h (suc (suc (suc zero))) b = omega (arith, ints)
gains_are f s h (suc (suc (suc (suc c)))) b = absurd (omega (arith, b))
