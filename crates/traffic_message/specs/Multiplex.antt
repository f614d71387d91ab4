-- The parts of a frame's information bits under multiplex option 1 (TIA/EIA-95-B, 7.1.3.5.11).
use Rattle.std.specs.Prelude.{ℕ, Bool, false, cond, if◌then◌else◌, List, [], ◌++◌, take, drop, Some}
use Rattle.std.specs.Prelude.{get_or, Option, None}
use Rattle.quality_bits.specs.declared.rate.Rate.{Rate}
use Rattle.quality_bits.specs.declared.rate.Rate.TheVariants.{R9600, R4800, R2400, R1200}
use Rattle.traffic_message.specs.declared.multiplex.Mux.{Mux}

-- the number of bits of primary traffic for the mode bits TM
abbrev pub primary_bits : Bool → Bool → ℕ
primary_bits tm1 tm0 = cond tm1 (cond tm0 0 16) (cond tm0 40 80)

-- At 9600 bits per second the first bit is the mixed mode bit MM. If it is 1, the traffic type bit
-- TT and two mode bits TM follow, then primary traffic, and then signaling if TT is 0, otherwise
-- secondary traffic.
unfoldable pub split_9600 : List Bool → Mux
split_9600 bits =
    let size = primary_bits (get_or bits 2 false) (get_or bits 3 false) in
    let mixed = drop 4 bits in
    if get_or bits 0 false then record {
      primary = take size mixed;
      signal = cond (get_or bits 1 false) None (Some (drop size mixed));
      secondary = cond (get_or bits 1 false) (Some (drop size mixed)) None;
    } else record { primary = drop 1 bits; signal = None; secondary = None }

-- at the other rates all bits are primary traffic
unfoldable pub split : Rate → List Bool → Mux
split R9600 bits = split_9600 bits
split R4800 bits = record { primary = bits; signal = None; secondary = None }
split R2400 bits = record { primary = bits; signal = None; secondary = None }
split R1200 bits = record { primary = bits; signal = None; secondary = None }

-- the bits of an optional part
abbrev pub part_bits : Option (List Bool) → List Bool
part_bits None = []
part_bits (Some bits) = bits

-- the parts of a frame in order
abbrev pub joined : Mux → List Bool
joined m = m.primary ++ (part_bits m.signal ++ part_bits m.secondary)
