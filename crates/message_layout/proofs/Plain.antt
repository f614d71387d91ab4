-- Layouts without a group and without octets: what is said by one, spelled and read by places.
use Rattle.message_layout.proofs.Common.{◌≡◌, ℕ, ◌*◌, ◌≤◌, Bool, cond, List, [], ◌∷◌, ◌++◌, length, map, drop, refl, sym, ap, ◌∙◌, arith}
use Rattle.message_layout.proofs.Common.{nil_from_length, nat_le, inl, inr, Option, Some, None, cases_Bool, le-leb, length-drop, spelled}
use Rattle.message_layout.proofs.Common.{in_widths, total_width, FieldsFit, binary, height, record_fields, shares, fields_at, group_at}
use Rattle.message_layout.proofs.Common.{number_part, octets_at, part_at, presence_at, reading, records_at, plain_contents, plain_shape}
use Rattle.message_layout.proofs.Common.{spelling, count_in, HaveValues, IsOf, IsRest, Contents}
pub use Rattle.message_layout.specs.Plain.{has_length, list_said}
use Rattle.message_layout.proofs.Messages.{no_columns, no_octets}

pub plain_of : (ws rs : List ℕ) (least : ℕ) (most : Option ℕ) (vs : List ℕ) (cs : List (List ℕ))
    (rest : List Bool) → HaveValues ws vs → map length cs ≡ shares rs (height cs) →
    FieldsFit (record_fields rs (height cs) cs) → least ≤ height cs → IsRest most rest →
    IsOf (plain_shape ws rs least most) (plain_contents vs cs rest)
plain_of ws rs least most vs cs rest have even fit some left =
    record {
      fixed = have;
      group = refl;
      whole = refl;
      counted = omega arith;
      columns = even;
      records = fit;
      least = some;
      left = left;
    }

pub plain_spelled : (ws rs : List ℕ) (least : ℕ) (most : Option ℕ) (vs : List ℕ)
    (cs : List (List ℕ)) (rest : List Bool) → spelling (plain_shape ws rs least most) (plain_contents vs cs rest)
    ≡ spelled (in_widths ws vs) ++ (spelled (record_fields rs (height cs) cs) ++ rest)
unfolding spelling binary
plain_spelled ws rs least most vs cs rest = refl

-- contents of one have nothing else
pub plain_back : (ws rs : List ℕ) (least : ℕ) (most : Option ℕ) (c : Contents) →
    IsOf (plain_shape ws rs least most) c → plain_contents c.fixed c.columns c.rest ≡ c
plain_back ws rs least most c is =
    let none : c.octets ≡ [] = no_octets c.octets is.whole is.counted in
    let group : None ≡ c.group = sym is.group in
    rw (← none, group) refl

-- where all bits are the rest
pub rest_back : (c : Contents) → IsOf (plain_shape [] [] 0 None) c → plain_contents [] ([] ∷ [] ∷ [] ∷ []) c.rest ≡ c
rest_back c is =
    let none : [] ≡ c.fixed = sym (nil_from_length c.fixed is.fixed.all) in
    ap (λ (vs : List ℕ). plain_contents vs ([] ∷ [] ∷ [] ∷ []) c.rest) none
    ∙ ap (λ (cs : List (List ℕ)). plain_contents c.fixed cs c.rest) (no_columns c.columns is.columns)
    ∙ plain_back [] [] 0 None c is

-- READ
-- fields, records and a rest, where there are as many bits as these have
pub plain_reading : (ws rs : List ℕ) (least : ℕ) (most : Option ℕ) (bits : List Bool) →
    reading (plain_shape ws rs least most) bits
    ≡ cond (has_length (plain_shape ws rs least most) (length bits)) (Some (list_said ws rs bits)) None
unfolding reading fields_at group_at presence_at octets_at number_part part_at records_at
plain_reading ws rs least most bits =
    let w = drop (total_width ws) bits in
    let n = count_in rs (length w) in
    let any = le-leb 0 (length w) (omega arith) in
    let following = length-drop (total_width ws) bits in
    let left = length-drop (n * total_width rs) w in
    elim (cases_Bool (nat_le (total_width ws) (length bits))) [
      | inr f ↦ rw f refl
      | inl t ↦
          elim (cases_Bool (nat_le least n)) [
            | inr f ↦ rw (← following, t, any, any, any, f) refl
            | inl some ↦ rw (← following, t, any, any, any, some, left) refl
          ]
    ]
