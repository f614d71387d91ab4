-- Ratios are at most 1, and there is none after the end of their table.
use Rattle.pilot_sets.proofs.Common.{◌≡◌, ◌<◌, ◌≤◌, ℕ, Bool, true, false, nat_le, refl, sym, ◌∙◌, leb-true, get_or_past, list_all_at, ratio}
use Rattle.pilot_sets.proofs.Common.{list_all, ratios}

pub no_ratio : (k : ℕ) → 64 ≤ k → 0 ≡ ratio k
no_ratio k h = sym (get_or_past ratios k 0 h)

are_small : list_all (λ r. nat_le r 1000000) ratios ≡ true
are_small = refl

pub small_ratio : (k : ℕ) → k < 64 → ratio k ≤ 1000000
small_ratio k h = by_cases (nat_le (ratio k) 1000000) refl
  where
    not_both : true ≡ false → ⊥
    not_both e = cc

    by_cases : (b : Bool) → nat_le (ratio k) 1000000 ≡ b → ratio k ≤ 1000000
    by_cases true e = leb-true (ratio k) 1000000 e
    by_cases false e = absurd (not_both (sym are_small ∙ list_all_at (λ r. nat_le r 1000000) ratios k 0 h e))
