-- The message of a `sync` line: its rest is tested, and then it has a spelling.
use Rattle.cell_script.proofs.Common.{◌≡◌, ℕ, ◌%◌, ◌^◌, ◌<◌, Bool, true, false, cond, List, length, refl, ◌∙◌, Option, None, Some, IfSome}
use Rattle.cell_script.proofs.Common.{nat_le, ◌==◌, cond-true, cond-false, eq-eqb, eqb-true, le-leb, leb-true, FieldsFit, fixed_fields}
use Rattle.cell_script.proofs.Common.{IsSyncMessage, IsTail, SyncFields, admitted, tail_of, has_lawful_rest, lawful_message}

tested : (freq : Option ℕ) (rest : List Bool) → IsTail freq rest → has_lawful_rest freq rest ≡ true
tested None rest long = eq-eqb (length rest) 3 long
tested (Some freq) rest is = cond-true _ _ _ (eq-eqb (length rest % 8) 0 is.1)
    ∙ le-leb (length rest) 976 is.2

whole_octets : (whole fits : Bool) → cond whole fits false ≡ true → (whole ≡ true) × (fits ≡ true)
whole_octets true fits both = (refl, both)
whole_octets false fits both = absurd (cc both)

pub is_tail : (freq : Option ℕ) (rest : List Bool) → IfSome freq (λ n. n < 2 ^ 11) →
    has_lawful_rest freq rest ≡ true → IsTail freq rest
is_tail None rest small test = eqb-true (length rest) 3 test
is_tail (Some freq) rest small test =
    let both = whole_octets (length rest % 8 == 0) (nat_le (length rest) 976) test in
    (small, eqb-true (length rest % 8) 0 both.0, leb-true (length rest) 976 both.1)

pub is_message : (m : SyncFields) → IsSyncMessage m → lawful_message m ≡ Some m
is_message m is = cond-true _ _ _ (tested m.freq m.rest (tail_of m is))

pub no_message : (m : SyncFields) → FieldsFit (fixed_fields m) → IfSome m.freq (λ n. n < 2 ^ 11) →
    ¬ IsSyncMessage m → lawful_message m ≡ None
no_message m fixed freq none = by_test (has_lawful_rest m.freq m.rest) refl
  where
    by_test : (test : Bool) → has_lawful_rest m.freq m.rest ≡ test → lawful_message m ≡ None
    by_test true e = absurd (none (admitted m fixed (is_tail m.freq m.rest freq e)))
    by_test false e = cond-false _ _ _ e
