-- A list that a loop reads from its start: what stands at a place, what is left, what is found first.
use Rattle.chip_core.proofs.Common.{◌≡◌, ℕ, zero, suc, ◌+◌, ◌<◌, Bool, true, false, List, [], ◌∷◌, length, drop, get_or, refl, ap, ◌∙◌, sym}
use Rattle.chip_core.proofs.Common.{arith, nat_eq, Some, ⊎_elim, cond, find, cases_eq, eq-eqb, ne_eqb, drop_more, get_or_from_slice_get}
use Rattle.std.specs.Prelude.{slice_get}

-- whether two numbers are the same is asked either way round
pub nat_eq-flipped : (x y : ℕ) → nat_eq x y ≡ nat_eq y x
nat_eq-flipped x y = ⊎_elim (λ same. eq-eqb x y same ∙ sym (eq-eqb y x (sym same)))
    (λ other. ne_eqb x y other ∙ sym (ne_eqb y x (λ same. other (sym same)))) (cases_eq x y)

-- at a place within a list it doesn't matter what stands for its end
pub any_default : {A : Type 0} (xs : List A) (n : ℕ) (d e : A) → n < length xs → get_or xs n d ≡ get_or xs n e
any_default [] n d e inside = absurd (omega (arith, inside))
any_default (x ∷ xs) zero d e inside = refl
any_default (x ∷ xs) (suc n) d e inside = any_default xs n d e (omega (arith, inside))

-- what is left of a list from a place that is read
pub left_at : {A : Type 0} (xs : List A) (i : ℕ) (x : A) → i < length xs →
    slice_get xs i ≡ Some x → drop i xs ≡ x ∷ drop (i + 1) xs
left_at {A} xs i x within read =
    drop_more xs i x within
    ∙ ap (λ (y : A). y ∷ drop (i + 1) xs) (get_or_from_slice_get xs i x x read)

pub found_here : {A : Type 0} (test : A → Bool) (xs : List A) (i : ℕ) (x : A) → i < length xs →
    slice_get xs i ≡ Some x → find test xs ≡ find test (drop i xs) → test x ≡ true → find test xs ≡ Some x
found_here {A} test xs i x within read before passes =
    before
    ∙ ap (λ (ys : List A). find test ys) (left_at xs i x within read)
    ∙ ap (λ (b : Bool). cond b (Some x) (find test (drop (i + 1) xs))) passes

pub found_later : {A : Type 0} (test : A → Bool) (xs : List A) (i : ℕ) (x : A) → i < length xs →
    slice_get xs i ≡ Some x → find test xs ≡ find test (drop i xs) → test x ≡ false →
    find test xs ≡ find test (drop (i + 1) xs)
found_later {A} test xs i x within read before fails =
    before
    ∙ ap (λ (ys : List A). find test ys) (left_at xs i x within read)
    ∙ ap (λ (b : Bool). cond b (Some x) (find test (drop (i + 1) xs))) fails
