-- What a bit adds, by a state's code.
use Rattle.list_viterbi.proofs.Common.{◌≡◌, ℕ, ◌+◌, ◌*◌, ◌/◌, ◌%◌, ◌<◌, ◌≤◌, get_or, arith, sym, subst, ℤ, unsigned_abs, to_z, of_z, w64}
use Rattle.list_viterbi.proofs.Common.{to_z-of_z, SFits, patterns, lane_code_of, gain_by, pattern_small, lane_small, gain_size}

pub code_small : (t : ℕ) → t < 256 → lane_code_of t < 4
code_small t b =
    let few = pattern_small (t / 8) (omega (arith, b)) in
    lane_small (8 * get_or patterns (t / 8) 0 + t % 8) (omega (arith, few))

pub given_gain_size : (f s gain : ℤ) (c : ℕ) → gain ≡ gain_by f s c →
    unsigned_abs gain ≤ unsigned_abs f + unsigned_abs s
given_gain_size f s gain c is =
    subst (λ (z : ℤ). unsigned_abs z ≤ unsigned_abs f + unsigned_abs s) (sym is) (gain_size f s c)

-- it is the same of soft values that were handed on
pub gain_passed : (f s gain : ℤ) (c : ℕ) → SFits w64 f → SFits w64 s →
    gain ≡ gain_by (to_z w64 (of_z w64 f)) (to_z w64 (of_z w64 s)) c → gain ≡ gain_by f s c
gain_passed f s gain c p q is = rw (to_z-of_z w64 f p, to_z-of_z w64 s q) at is
