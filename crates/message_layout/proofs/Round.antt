-- Contents, spelled and read again.
use Rattle.message_layout.proofs.Common.{◌≡◌, ℕ, Bool, true, List, ◌++◌, length, refl, sym, ap, subst, ◌∙◌, Option, Some, None, IfSome}
use Rattle.message_layout.proofs.Common.{le-leb, leb-true, spelled, in_widths, ◌>>=◌, fields_at, group_at, is_rest, octets_at, reading}
use Rattle.message_layout.proofs.Common.{records_at, rest_at, is_lawful, MessageShape, after_group, group_fields, octet_bits, records_of}
use Rattle.message_layout.proofs.Common.{spelling, IsGroup, IsOf, IsRest, Contents}
use Rattle.message_layout.proofs.Lawful.{lawful}
use Rattle.message_layout.proofs.Parts.{bind_some, fields_again, fields_there, group_again, group_there, guard_some, octets_again, some_is}
use Rattle.message_layout.proofs.Parts.{octets_there, records_part_again, records_part_there}

rest_to : (most : Option ℕ) (rest : List Bool) → IsRest most rest → is_rest most rest ≡ true
rest_to None rest h = refl
rest_to (Some most) rest h = le-leb (length rest) most h

rest_from : (most : Option ℕ) (rest : List Bool) → is_rest most rest ≡ true → IsRest most rest
rest_from None rest h = tt
rest_from (Some most) rest h = leb-true (length rest) most h

-- what was spelled is read again
pub reading_again : (s : MessageShape) (c : Contents) → is_lawful s ≡ true → IsOf s c →
    reading s (spelling s c) ≡ Some c
unfolding reading spelling
reading_again s c h is =
    let p = lawful s h in
    let rest = spelled (records_of s c) ++ c.rest in
    rw (
      fields_again s.fixed c.fixed
          (spelled (group_fields s.presence s.group c.group) ++ after_group s c) is.fixed,
      group_again s.presence s.group c.group (after_group s c) p.told is.group,
      octets_again s.zeros s.count c.octets rest is.whole is.counted,
      records_part_again s.records s.least s.most c.columns c.rest p.few p.last is.columns
          is.records is.least is.left,
      rest_to s.most c.rest is.left,
    ) refl

-- what is read is spelled so
abbrev Spells : MessageShape → List Bool → Contents → Type 0
Spells s bits c = IsOf s c × (bits ≡ spelling s c)

-- What a lawful layout reads is spelled by the bits that it was read from: the fixed fields, the
-- group, the octets, the records and the rest are read one after another, and each spells the bits
-- that it took from where the one before it ended.
pub reading_there : (s : MessageShape) (bits : List Bool) (c : Contents) → is_lawful s ≡ true →
    reading s bits ≡ Some c → IsOf s c × (bits ≡ spelling s c)
unfolding reading spelling
reading_there s bits c h e =
    let p = lawful s h in
    let x = bind_some (fields_at s.fixed bits) (λ fixed.
    group_at s.presence s.group fixed.1 >>= λ group.
    octets_at s.zeros s.count group.1 >>= λ octets.
    records_at s.records s.least octets.1 >>= λ records.
    rest_at s.most fixed.0 group.0 octets.0 records.0 records.1) c e in
    let y = bind_some (group_at s.presence s.group x.0.1) (λ group.
    octets_at s.zeros s.count group.1 >>= λ octets.
    records_at s.records s.least octets.1 >>= λ records.
    rest_at s.most x.0.0 group.0 octets.0 records.0 records.1) c x.2 in
    let z = bind_some (octets_at s.zeros s.count y.0.1) (λ octets.
    records_at s.records s.least octets.1 >>= λ records.
    rest_at s.most x.0.0 y.0.0 octets.0 records.0 records.1) c y.2 in
    let w = bind_some (records_at s.records s.least z.0.1) (λ records.
    rest_at s.most x.0.0 y.0.0 z.0.0 records.0 records.1) c z.2 in
    let read : Contents = record { fixed = x.0.0; group = y.0.0; octets = z.0.0; columns = w.0.0; rest = w.0.1 } in
    let g = guard_some (is_rest s.most w.0.1) (Some read) c w.2 in
    let fixed = fields_there s.fixed x.0.0 bits x.0.1 x.1 in
    let group = group_there s.presence s.group y.0.0 x.0.1 y.0.1 y.1 in
    let octets = octets_there s.zeros s.count y.0.1 z.0.0 z.0.1 z.1 in
    let records = records_part_there s.records s.least z.0.1 w.0.0 w.0.1 p.few w.1 in
    let following : y.0.1 ≡ after_group s read =
    octets.2 ∙ ap (λ (r : List Bool). octet_bits s.zeros s.count z.0.0 ++ r) records.3 in
    let signed = spelled (group_fields s.presence s.group y.0.0) in
    let whole : x.0.1 ≡ signed ++ after_group s read = group.1 ∙ ap (λ (r : List Bool). signed ++ r) following in
    subst (Spells s bits) (some_is read c g.1) (
      record {
        fixed = fixed.0;
        group = subst (λ (r : List Bool). IsGroup s.presence s.group y.0.0 (length r)) following
            group.0;
        whole = octets.0;
        counted = octets.1;
        columns = records.0;
        records = records.1;
        least = records.2;
        left = rest_from s.most w.0.1 g.0;
      },
      fixed.1 ∙ ap (λ (r : List Bool). spelled (in_widths s.fixed x.0.0) ++ r) whole,
    )

-- contents of one layout with one spelling are the same
pub one_reading : (s : MessageShape) (c d : Contents) → is_lawful s ≡ true → IsOf s c → IsOf s d →
    spelling s c ≡ spelling s d → c ≡ d
one_reading s c d h p q same = some_is c d (sym (reading_again s c h p) ∙ ap (reading s) same ∙ reading_again s d h q)

-- what is read by parts is read
pub read_found : (s : MessageShape) (bits : List Bool) (read : Option Contents) → is_lawful s ≡ true →
    read ≡ reading s bits → IfSome read (λ c. IsOf s c × (bits ≡ spelling s c))
read_found s bits None h e = tt
read_found s bits (Some c) h e = reading_there s bits c h (sym e)
