-- The active pilots from which a frame of a traffic channel is received (after TIA/EIA-95-B,
-- 6.6.6.2).
use Rattle.heard_events.specs.Common.{places, Standing, shown, Finger, fingers_of, modulo_code, Leg}
use Rattle.heard_events.specs.Common.{Mark}
use Rattle.std.specs.Prelude.{ℕ, ◌*◌, ◌==◌, if◌then◌else◌, Bool, List, [], ◌∷◌, map, filter, ℤ, pos}
use Rattle.std.specs.Prelude.{◌-ℤ◌, get_or}
use Rattle.std.specs.List.{flat_map, list_any}
use Rattle.pilot_sets.specs.declared.lists.Active.{Active}

-- the chip of a pilot's code that falls on sample 0, on a path `delta` chips earlier than the
-- reference; at the mark, system time is a multiple of the code's period
abbrev pub pilot_phase : Mark → ℕ → ℤ → ℕ
pilot_phase m pilot delta = modulo_code ((delta -ℤ pos (64 * pilot)) -ℤ pos m.sample)

-- the finger of a pilot, on the path where it was last measured
abbrev pub pilot_finger : Mark → ℤ → Active → Finger
pilot_finger m delta a = record { phase = pilot_phase m a.pilot delta; delta = delta; row = a.row }

abbrev pub leg_of : Mark → List ℤ → Active → Leg
leg_of m deltas a = record {
  reference = a.pilot == m.pilot;
  finger = pilot_finger m (get_or deltas a.pilot (pos 0)) a;
  subchannel = a.subchannel;
}

-- the active pilots of the sets
abbrev pub legs_of : Mark → Standing → List Leg
legs_of m s = map (leg_of m s.deltas) (shown s)

-- The reference's pilot has a finger on each of the handset's paths, any other pilot only one.
abbrev pub leg_fingers : ℕ → List ℤ → Leg → List Finger
leg_fingers phase deltas leg =
    if leg.reference then fingers_of leg.finger.row phase deltas else leg.finger ∷ []

abbrev pub all_fingers : ℕ → List ℤ → List Leg → List Finger
all_fingers phase deltas legs = flat_map (leg_fingers phase deltas) legs

-- the pilots of a power control subchannel, and those of the six subchannels that have pilots
abbrev pub is_on : ℕ → Leg → Bool
is_on c leg = leg.subchannel == c

abbrev pub on_subchannel : ℕ → List Leg → List Leg
on_subchannel c legs = filter (is_on c) legs

abbrev pub has_subchannel : List Leg → ℕ → Bool
has_subchannel legs c = list_any (is_on c) legs

abbrev pub subchannels : List Leg → List ℕ
subchannels legs = filter (has_subchannel legs) (places 6)
