-- Contents that are written part by part.
use Rattle.message_layout.proofs.Common.{◌≡◌, ℕ, ◌+◌, ◌≤◌, List, Bool, [], ◌++◌, length, ap, ◌∙◌, arith, append_assoc, length-append, None}
use Rattle.message_layout.proofs.Common.{Option, Some, binary, spelled, in_widths, length-binary, MessageShape, after_group, group_fields}
use Rattle.message_layout.proofs.Common.{octet_bits, records_of, spelling, Contents, Presence, Never, Flagged, UnlessLeft}

abbrev pub fixed_bits : MessageShape → Contents → List Bool
fixed_bits s c = spelled (in_widths s.fixed c.fixed)

abbrev pub group_bits : MessageShape → Contents → List Bool
group_bits s c = spelled (group_fields s.presence s.group c.group)

abbrev pub octets_of : MessageShape → Contents → List Bool
octets_of s c = octet_bits s.zeros s.count c.octets

abbrev pub record_bits : MessageShape → Contents → List Bool
record_bits s c = spelled (records_of s c)

pub length-spelling : (s : MessageShape) (c : Contents) → length (spelling s c)
    ≡ length (fixed_bits s c) + length (group_bits s c) + length (octets_of s c)
    + length (record_bits s c) + length c.rest
unfolding spelling
length-spelling s c =
    omega (
      arith,
      length-append (fixed_bits s c) (group_bits s c ++ after_group s c),
      length-append (group_bits s c) (after_group s c),
      length-append (octets_of s c) (record_bits s c ++ c.rest),
      length-append (record_bits s c) c.rest,
    )

-- There is room for what is left to write: for all at the start, and after each part that was
-- written for the parts after it.
pub room_first : (s : MessageShape) (c : Contents) (first : List Bool) → length first + length (spelling s c) ≤ 1184 →
    length first + (length (fixed_bits s c) + (length (group_bits s c)
    + (length (octets_of s c) + (length (record_bits s c) + length c.rest)))) ≤ 1184
room_first s c first room = omega (arith, room, length-spelling s c)

pub room_after : (before part after : List Bool) (more : ℕ) → after ≡ before ++ part →
    length before + (length part + more) ≤ 1184 → length after + more ≤ 1184
room_after before part after more is room = omega (arith, room, ap length is ∙ length-append before part)

pub room_of_part : (before part more : ℕ) → before + (part + more) ≤ 1184 → before + part ≤ 1184
room_of_part before part more room = omega (arith, room)

-- A body to which the fixed fields, the group, the octets, the records and the rest were added one
-- after the other has the contents' spelling at its end: it makes no difference which of these are
-- joined first.
pub written : (s : MessageShape) (c : Contents) (first a b d e after : List Bool) →
    a ≡ first ++ fixed_bits s c → b ≡ a ++ group_bits s c → d ≡ b ++ octets_of s c →
    e ≡ d ++ record_bits s c → after ≡ e ++ c.rest → after ≡ first ++ spelling s c
unfolding spelling
written s c first a b d e after p q r t u =
    let x = fixed_bits s c in
    let y = group_bits s c in
    let z = octets_of s c in
    let w = record_bits s c in
    u ∙ ap (λ (l : List Bool). l ++ c.rest) (t ∙ ap (λ (l : List Bool). l ++ w)
    (r ∙ ap (λ (l : List Bool). l ++ z) (q ∙ ap (λ (l : List Bool). l ++ y) p)))
    ∙ append_assoc (((first ++ x) ++ y) ++ z) w c.rest
    ∙ append_assoc ((first ++ x) ++ y) z (w ++ c.rest)
    ∙ append_assoc (first ++ x) y (z ++ (w ++ c.rest))
    ∙ append_assoc first x (y ++ (z ++ (w ++ c.rest)))

-- there is room for the bit before a group
pub flagged_room : (p : Presence) (ws : List ℕ) (group : Option (List ℕ)) (body : ℕ) →
    p ≡ Flagged → body + length (spelled (group_fields p ws group)) ≤ 1184 → body + 1 ≤ 1184
flagged_room Never ws group body is room = absurd (cc)
flagged_room (UnlessLeft count) ws group body is room = absurd (cc)
flagged_room Flagged ws None body is room = omega (arith, room, length-append (binary 1 0) [], length-binary 1 0)
flagged_room Flagged ws (Some vs) body is room =
    omega (arith, room, length-append (binary 1 1) (spelled (in_widths ws vs)), length-binary 1 1)
