-- Lists that end with their check.
use Rattle.quality_bits.proofs.Common.{quality_indicator, quality_length, length-append, generator_of, body_length, check_bits, sent_check}
use Rattle.quality_bits.proofs.Common.{CheckForm, IsChecked, eqb-true, take_at, drop_at, length, nat_eq, IsTrue, Option, eq-eqb, number, []}
use Rattle.quality_bits.proofs.Common.{arith, Bool, List, ◌++◌, refl, None, Some, Kind, ◌≡◌, ◌<◌, not, ◌∷◌, map, sym, ◌∙◌, suc, ◌↔◌, ap, ℕ}
use Rattle.chip_core.specs.declared.check_form.CheckForm.TheVariants.{Plain, Complemented}
use Rattle.quality_bits.specs.declared.kind.Kind.TheVariants.{Q6, Q8, Q10, Q12, M16, M30}
use Rattle.quality_bits.proofs.Digits.{number_injective}
use Rattle.quality_bits.proofs.Steps.{length-check_bits}

length-inverted : (bs : List Bool) → length (map not bs) ≡ length bs
length-inverted [] = refl
length-inverted (b ∷ bs) = ap suc (length-inverted bs)

pub degree_positive : (kind : Kind) → 0 < (generator_of kind).degree
degree_positive Q6 = omega arith
degree_positive Q8 = omega arith
degree_positive Q10 = omega arith
degree_positive Q12 = omega arith
degree_positive M16 = omega arith
degree_positive M30 = omega arith

pub length-sent_check : (kind : Kind) (form : CheckForm) (bits : List Bool) →
    length (sent_check kind form bits) ≡ (generator_of kind).degree
length-sent_check kind Plain bits = length-check_bits (generator_of kind) bits (degree_positive kind)
length-sent_check kind Complemented bits =
    length-inverted (check_bits (generator_of kind) bits) ∙
    length-check_bits (generator_of kind) bits (degree_positive kind)

-- equal numbers of lists of one length, as the code compares them
pub same_numbers : (xs ys : List Bool) (m n : ℕ) → length xs ≡ length ys → m ≡ number xs →
    n ≡ number ys → IsTrue (nat_eq m n) ↔ (xs ≡ ys)
same_numbers xs ys m n long left right = (
  (λ same. number_injective xs ys long (sym left ∙ eqb-true m n same ∙ right)),
  (λ same. eq-eqb m n (left ∙ ap number same ∙ sym right)),
)

-- bits with their check after them are checked
pub checked-sent : (kind : Kind) (form : CheckForm) (bits : List Bool) →
    IsChecked kind form (bits ++ sent_check kind form bits)
checked-sent kind form bits =
    let sent = sent_check kind form bits in
    let body : body_length kind (bits ++ sent) ≡ length bits =
    omega (arith, length-append bits sent, length-sent_check kind form bits) in
    rw (body, drop_at bits sent (length bits) refl, take_at bits sent (length bits) refl)

pub length-quality_indicator : (kind : Option Kind) (information : List Bool) →
    length (quality_indicator kind information) ≡ quality_length kind
length-quality_indicator None information = refl
length-quality_indicator (Some kind) information =
    length-check_bits (generator_of kind) information (degree_positive kind)
