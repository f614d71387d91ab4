-- Message capsules: the length in octets, the body, and the check of both.
use Rattle.std.specs.Prelude.{ℕ, ◌+◌, ◌*◌, ◌/◌, ◌≤◌, ◌≡◌, Bool, if◌then◌else◌, not, ◌&&◌, ◌||◌}
use Rattle.std.specs.Prelude.{List, ◌++◌, length, take, Option, Some, None, nat_lt, nat_le}
use Rattle.chip_core.specs.Bits.{are_same, number, binary}
use Rattle.chip_core.specs.declared.check_form.CheckForm.{CheckForm}
use Rattle.quality_bits.specs.Kinds.{generator_of, sent_check}
use Rattle.quality_bits.specs.declared.kind.Kind.{Kind}

-- the number of octets of a capsule with this body: those of the length, the body and the check
abbrev pub octets : Kind → List Bool → ℕ
octets kind body = (8 + length body + (generator_of kind).degree) / 8

-- a body whose capsule has 5 to 148 whole octets
pub record FillsCapsule (kind : Kind) (body : List Bool) : Type 0 where
  pub whole : 8 * octets kind body ≡ 8 + length body + (generator_of kind).degree
  pub least : 5 ≤ octets kind body
  pub most : octets kind body ≤ 148

-- the length and the body
abbrev pub capsule_front : Kind → List Bool → List Bool
capsule_front kind body = binary 8 (octets kind body) ++ body

unfoldable pub capsule : Kind → CheckForm → List Bool → List Bool
capsule kind form body = capsule_front kind body ++ sent_check kind form (capsule_front kind body)

-- the number of bits of a capsule, as its first eight bits state it
abbrev pub stated_bits : List Bool → ℕ
stated_bits bits = 8 * number (take 8 bits)

-- whether a capsule's length is stated and lawful
unfoldable pub is_stated : List Bool → Bool
is_stated bits =
    nat_le 8 (length bits) && nat_le 40 (stated_bits bits) && nat_le (stated_bits bits) 1184

-- a list that has the length that it states, which is lawful
pub record IsWhole (bits : List Bool) : Type 0 where
  pub told : 8 ≤ length bits
  pub least : 40 ≤ stated_bits bits
  pub most : stated_bits bits ≤ 1184
  pub all : length bits ≡ stated_bits bits

-- the capsule at the front of the bits, if it is complete
unfoldable pub front_capsule : List Bool → Option (List Bool)
front_capsule bits =
    if is_stated bits && nat_le (stated_bits bits) (length bits)
    then Some (take (stated_bits bits) bits) else None

-- whether more bits may complete a capsule that begins with these
unfoldable pub awaits_more : List Bool → Bool
awaits_more bits =
    not (nat_le 8 (length bits)) || (is_stated bits && nat_lt (length bits) (stated_bits bits))

-- the bits of an open capsule; none if more bits can't complete it
unfoldable pub still_open : List Bool → Option (List Bool)
still_open bits = if awaits_more bits then Some bits else None

-- the open capsule after more bits, and the capsule that they complete
abbrev pub continued : Option (List Bool) → List Bool → Option (List Bool)
continued None more = None
continued (Some bits) more = still_open (bits ++ more)

abbrev pub completed : Option (List Bool) → List Bool → Option (List Bool)
completed None more = None
completed (Some bits) more = front_capsule (bits ++ more)

-- the message read from a capsule, if these bits are exactly its capsule
abbrev pub if_spelled : {M : Type 0} → (M → List Bool) → List Bool → Option M → Option M
if_spelled spelled bits None = None
if_spelled spelled bits (Some m) = if are_same (spelled m) bits then Some m else None
