-- Worked values.
use Rattle.traffic_message.specs.Common.{binary, places, spelling, capsule, front_capsule, Head}
use Rattle.traffic_message.specs.Common.{is_stated}
use Rattle.std.specs.Prelude.{◌≡◌, refl, Bool, true, false, List, [], ◌∷◌, ◌++◌, replicate, length}
use Rattle.std.specs.Prelude.{take, drop, map, Some, None}
use Rattle.chip_core.specs.declared.check_form.CheckForm.TheVariants.{Plain, Complemented}
use Rattle.message_layout.specs.Reading.{fields_at, group_at, number_part, octets_at, part_at}
use Rattle.message_layout.specs.Reading.{presence_at, reading, records_at}
use Rattle.quality_bits.specs.Pieces.{piece, capsule_ending}
use Rattle.quality_bits.specs.Quality.{check_bits}
use Rattle.quality_bits.specs.declared.rate.Rate.TheVariants.{R9600, R4800}
use Rattle.traffic_message.specs.Handoff.{direction_of, hard_place, is_hard, search_of}
use Rattle.traffic_message.specs.InTraffic.{in_traffic_of}
use Rattle.traffic_message.specs.Messages.{Message, traffic_message_body, traffic_capsule}
use Rattle.traffic_message.specs.Multiplex.{split, split_9600}
use Rattle.traffic_message.specs.Reading.{traffic_body_reading, head_at, head_of, is_traffic_body}
use Rattle.traffic_message.specs.Reading.{part_reading, traffic_reading}
use Rattle.traffic_message.specs.declared.body.TrafficBody.TheVariants.{Handoff, Neighbors, Other}
use Rattle.traffic_message.specs.declared.body.TrafficBody.TheVariants.{System}
use Rattle.traffic_message.specs.declared.multiplex.Mux.{Mux}

-- FRAMES
-- MM 1 and TT 0, TM 00: 80 bits of primary traffic and 88 of signaling
blank : List Bool → Mux
unfolding split split_9600
blank bits = split R9600 bits

signaled : blank (true ∷ replicate 171 false)
    ≡ record { primary = replicate 80 false; signal = Some (replicate 88 false); secondary = None }
unfolding blank split split_9600
signaled = refl

-- TT 1: the same bits are secondary traffic
seconded : blank (true ∷ true ∷ replicate 170 false)
    ≡ record { primary = replicate 80 false; signal = None; secondary = Some (replicate 88 false) }
unfolding blank split split_9600
seconded = refl

-- TM 01, 10 and 11: 40, 16 and no bits of primary traffic
modes : map (λ (m : Mux). length m.primary)
    (blank (true ∷ false ∷ false ∷ true ∷ replicate 168 false)
    ∷ blank (true ∷ false ∷ true ∷ false ∷ replicate 168 false)
    ∷ blank (true ∷ false ∷ true ∷ true ∷ replicate 168 false) ∷ []) ≡ 40 ∷ 16 ∷ 0 ∷ []
unfolding blank split split_9600
modes = refl

-- MM 0, and another rate
only_primary : (length (blank (replicate 172 false)).primary ≡ 171)
    × ((split R4800 (replicate 80 false)).primary ≡ replicate 80 false)
unfolding blank split split_9600
only_primary = (refl, refl)

-- A MESSAGE WITHOUT FIELDS
first_head : Head
first_head = record { ack_seq = 2; msg_seq = 3; ack_req = true; encryption = 0 }

other : Message
unfolding first_head
other = record { head = first_head; body = Other 1 (replicate 7 false) }

other_spelled : traffic_message_body other ≡ binary 24 0x014e00
unfolding other first_head traffic_message_body spelling binary
other_spelled = refl

other_read : traffic_body_reading (binary 24 0x014e00) ≡ Some other
unfolding other first_head traffic_body_reading is_traffic_body head_at head_of part_reading reading
    fields_at group_at presence_at octets_at number_part part_at records_at is_hard hard_place
    binary
other_read = refl

-- 16 bits are too few for a head
too_short : traffic_body_reading (replicate 16 false) ≡ None
unfolding traffic_body_reading is_traffic_body
too_short = refl

-- what is read is what was spelled, but only with the right form of the check
other_again : (traffic_reading Complemented (traffic_capsule Complemented other) ≡ Some other)
    × (traffic_reading Plain (traffic_capsule Complemented other) ≡ None)
unfolding other first_head traffic_reading traffic_capsule traffic_message_body spelling
    traffic_body_reading is_traffic_body head_at head_of part_reading reading fields_at group_at
    presence_at octets_at number_part part_at records_at is_hard hard_place capsule check_bits
    binary places
other_again = (refl, refl)

-- HANDOFF DIRECTIONS
no_head : Head
no_head = record { ack_seq = 0; msg_seq = 0; ack_req = false; encryption = 0 }

-- `56:11007101ff0a00`: at action time 49, to pilot 511 on row 20
one_pilot : Message
unfolding no_head
one_pilot = record {
  head = no_head;
  body = Handoff (record {
    use_time = 1;
    action = 49;
    hdm = 0;
    search = None;
    extra = [];
    pns = 511 ∷ [];
    combs = 0 ∷ [];
    rows = 20 ∷ [];
    rest = replicate 7 false;
  });
}

one_pilot_read : traffic_body_reading (binary 56 0x11007101ff0a00) ≡ Some one_pilot
unfolding one_pilot no_head traffic_body_reading is_traffic_body head_at head_of part_reading
    reading fields_at group_at presence_at octets_at number_part part_at records_at is_hard
    hard_place direction_of binary
one_pilot_read = refl

one_pilot_spelled : traffic_message_body one_pilot ≡ binary 56 0x11007101ff0a00
unfolding one_pilot no_head traffic_message_body spelling binary
one_pilot_spelled = refl

-- with HARD_INCLUDED 1 the message is passed on as it is
hard : traffic_body_reading (binary 56 0x11007111ff0a00)
    ≡ Some (record { head = no_head; body = Other 17 (drop 17 (binary 56 0x11007111ff0a00)) })
unfolding no_head traffic_body_reading is_traffic_body head_at head_of part_reading reading
    fields_at group_at presence_at octets_at number_part part_at records_at is_hard hard_place
    binary
hard = refl

-- with search parameters, an additional octet and two records; PWR_COMB_IND precedes the row
two_pilots : Message
unfolding no_head
two_pilots = record {
  head = no_head;
  body = Handoff (record {
    use_time = 0;
    action = 63;
    hdm = 2;
    search = Some (record { wina = 5; tadd = 28; tdrop = 32; tcomp = 5; ttdrop = 3 });
    extra = binary 8 0xa5;
    pns = 4 ∷ 260 ∷ [];
    combs = 0 ∷ 1 ∷ [];
    rows = 63 ∷ 255 ∷ [];
    rest = true ∷ replicate 4 false;
  });
}

two_pilots_again : traffic_body_reading (traffic_message_body two_pilots) ≡ Some two_pilots
unfolding two_pilots no_head traffic_message_body spelling traffic_body_reading is_traffic_body
    head_at head_of part_reading reading fields_at group_at presence_at octets_at number_part
    part_at records_at is_hard hard_place direction_of search_of binary
two_pilots_again = refl

-- without a record it is not a message
no_pilot : traffic_body_reading (binary 32 0x11007100) ≡ None
unfolding traffic_body_reading is_traffic_body head_at head_of part_reading reading fields_at
    group_at presence_at octets_at number_part part_at records_at is_hard hard_place binary
no_pilot = refl

-- NEIGHBORS
one_neighbor : traffic_body_reading (binary 32 0x080008ff)
    ≡ Some (record {
      head = no_head;
      body = Neighbors (record { inc = 1; pns = 63 ∷ []; rest = true ∷ true ∷ [] });
    })
unfolding no_head traffic_body_reading is_traffic_body head_at head_of part_reading reading
    fields_at group_at presence_at octets_at number_part part_at records_at binary
one_neighbor = refl

two_neighbors : traffic_message_body (record {
  head = first_head;
  body = Neighbors (record { inc = 1; pns = 63 ∷ 511 ∷ []; rest = true ∷ [] });
}) ≡ binary 40 0x084e08ffff
unfolding first_head traffic_message_body spelling binary
two_neighbors = refl

-- without a neighbor it is not a message
no_neighbor : traffic_body_reading (binary 24 0x080008) ≡ None
unfolding traffic_body_reading is_traffic_body head_at head_of part_reading reading fields_at
    group_at presence_at octets_at number_part part_at records_at binary
no_neighbor = refl

-- an encrypted message is passed on as it is
secret : traffic_body_reading (binary 24 0x080088)
    ≡ Some (record { head = record no_head { encryption = 1 }; body = Other 8 (binary 7 8) })
unfolding no_head traffic_body_reading is_traffic_body head_at head_of part_reading reading
    fields_at group_at presence_at octets_at number_part part_at records_at binary
secret = refl

-- PARAMETERS
parameters_spelled : traffic_message_body (record {
  head = first_head;
  body = System (record {
    sid = 4660;
    nid = 22136;
    wina = 9;
    winn = 10;
    winr = 11;
    tadd = 28;
    tdrop = 32;
    tcomp = 5;
    ttdrop = 3;
    age = 12;
    rest = binary 4 5;
  });
}) ≡ binary 88 0x074e123456789ab72053c5
unfolding first_head traffic_message_body spelling binary
parameters_spelled = refl

-- the fields have 67 bits: 71 bits after the head are enough, and 63 aren't
enough : (traffic_body_reading (binary 8 7 ++ replicate 80 false)
    ≡ Some (record {
      head = no_head;
      body = System (record {
        sid = 0;
        nid = 0;
        wina = 0;
        winn = 0;
        winr = 0;
        tadd = 0;
        tdrop = 0;
        tcomp = 0;
        ttdrop = 0;
        age = 0;
        rest = replicate 4 false;
      });
    }))
    × (traffic_body_reading (binary 8 7 ++ replicate 72 false) ≡ None)
unfolding no_head traffic_body_reading is_traffic_body head_at head_of part_reading reading
    fields_at group_at presence_at octets_at number_part part_at records_at in_traffic_of binary
enough = (refl, refl)

-- SIGNALING
-- a capsule of six octets in the signaling parts of two frames; a start in the middle drops it
parts : List (List Bool)
unfolding binary
parts = (true ∷ (binary 8 6 ++ replicate 31 true)) ∷ (false ∷ replicate 39 true) ∷ []

ends : map (λ n. capsule_ending (map piece (take n parts))) (1 ∷ 2 ∷ []) ≡
    None ∷ Some (binary 8 6 ++ replicate 40 true) ∷ []
unfolding parts binary places capsule_ending front_capsule is_stated
ends = refl

dropped : capsule_ending (map piece ((true ∷ (binary 8 6 ++ replicate 31 true))
    ∷ (true ∷ replicate 39 true) ∷ [])) ≡ None
unfolding binary places capsule_ending front_capsule is_stated
dropped = refl
