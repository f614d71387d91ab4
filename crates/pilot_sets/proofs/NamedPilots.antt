-- The pilots of a direction's records, record by record.
use Rattle.pilot_sets.proofs.Common.{◌≡◌, ◌<◌, ◌+◌, ℕ, List, [], ◌∷◌, ◌++◌, drop, length, Some, slice_get, ◌==◌, ap, sym, ◌∙◌, arith}
use Rattle.pilot_sets.proofs.Common.{append_assoc, length-append, named_pilots, NamedPilot, left_at}

named : ℕ → ℕ → ℕ → NamedPilot
named p c r = record { pilot = p; row = r; combined = c == 1 }

-- one record more
pub named_more : (ps cs rs : List ℕ) (l : List NamedPilot) (i p c r : ℕ) → i < length ps →
    i < length cs → i < length rs → slice_get ps i ≡ Some p → slice_get cs i ≡ Some c → slice_get rs i ≡ Some r →
    named_pilots ps cs rs ≡ l ++ named_pilots (drop i ps) (drop i cs) (drop i rs) → named_pilots ps cs rs
    ≡ (l ++ record { pilot = p; row = r; combined = c == 1 } ∷ [])
    ++ named_pilots (drop (i + 1) ps) (drop (i + 1) cs) (drop (i + 1) rs)
unfolding named
named_more ps cs rs l i p c r hp hc hr ep ec er before =
    before
    ∙ ap (λ xs. l ++ named_pilots xs (drop i cs) (drop i rs)) (left_at ps i p hp ep)
    ∙ ap (λ xs. l ++ named_pilots (p ∷ drop (i + 1) ps) xs (drop i rs)) (left_at cs i c hc ec)
    ∙ ap (λ xs. l ++ named_pilots (p ∷ drop (i + 1) ps) (c ∷ drop (i + 1) cs) xs) (left_at rs i r hr er)
    ∙ sym (append_assoc l (named p c r ∷ []) (named_pilots (drop (i + 1) ps) (drop (i + 1) cs) (drop (i + 1) rs)))

pub length_more : (l : List NamedPilot) (n : NamedPilot) (i : ℕ) → length l ≡ i → length (l ++ n ∷ []) ≡ i + 1
length_more l n i long = omega (arith, long, length-append l (n ∷ []))
