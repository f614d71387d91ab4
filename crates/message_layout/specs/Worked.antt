-- Worked values.
use Rattle.message_layout.specs.Common.{Contents, Flagged, UnlessLeft}
use Rattle.std.specs.Prelude.{◌≡◌, refl, true, false, [], ◌∷◌, None, Some}
use Rattle.chip_core.specs.Bits.{number, binary}
use Rattle.message_layout.specs.Reading.{fields_at, group_at, number_part, octets_at, part_at}
use Rattle.message_layout.specs.Reading.{presence_at, reading, records_at}
use Rattle.message_layout.specs.Shapes.{is_lawful, MessageShape}
use Rattle.message_layout.specs.Spelling.{spelling}

-- a layout with each kind of part
all_parts : MessageShape
all_parts =
    record {
      fixed = 4 ∷ [];
      presence = Flagged;
      group = 3 ∷ [];
      zeros = 1;
      count = 3;
      records = 9 ∷ 1 ∷ [];
      least = 1;
      most = Some 7;
    }

said : Contents
said =
    record {
      fixed = 5 ∷ [];
      group = Some (6 ∷ []);
      octets = true ∷ false ∷ true ∷ false ∷ false ∷ true ∷ false ∷ true ∷ [];
      columns = (257 ∷ 3 ∷ []) ∷ (1 ∷ 0 ∷ []) ∷ [] ∷ [];
      rest = true ∷ [];
    }

lawful : is_lawful all_parts ≡ true
unfolding all_parts is_lawful
lawful = refl

spelled : number (spelling all_parts said) ≡ 0xbc34b0180d
unfolding all_parts said spelling binary
spelled = refl

-- what is read is what was spelled
read : reading all_parts (spelling all_parts said) ≡ Some said
unfolding all_parts said spelling reading fields_at group_at presence_at octets_at number_part
    part_at records_at binary
read = refl

-- with three bits left after a field of four bits, the group is absent
unless_left : MessageShape
unless_left =
    record {
      fixed = 4 ∷ [];
      presence = UnlessLeft 3;
      group = 11 ∷ [];
      zeros = 0;
      count = 0;
      records = [];
      least = 0;
      most = None;
    }

no_group : reading unless_left (false ∷ true ∷ true ∷ false ∷ true ∷ true ∷ false ∷ [])
    ≡ Some
    (record {
      fixed = 6 ∷ [];
      group = None;
      octets = [];
      columns = [] ∷ [] ∷ [] ∷ [];
      rest = true ∷ true ∷ false ∷ [];
    })
unfolding unless_left reading fields_at group_at presence_at octets_at number_part part_at
    records_at
no_group = refl

-- with four bits left, the group is present, and they are too few for it
too_short : reading unless_left
    (false ∷ true ∷ true ∷ false ∷ true ∷ true ∷ false ∷ true ∷ []) ≡ None
unfolding unless_left reading fields_at group_at presence_at octets_at number_part part_at
    records_at
too_short = refl
