-- How far the fingers of active pilots may be from the reference path.
use Rattle.heard_events.specs.Common.{half_window_chips, Finger, Leg}
use Rattle.std.specs.Prelude.{◌≡◌, ℕ, ◌+◌, ◌≤◌, Bool, List, [], ◌∷◌, ℤ, unsigned_abs, nat_le, Some}
use Rattle.std.specs.Prelude.{nat_lt, if◌then◌else◌, Option, None}
use Rattle.std.specs.List.{list_all}
use Rattle.rake_finger.specs.Near.{is_close}

-- the fingers of an optional list
abbrev pub fingers_in : Option (List Finger) → List Finger
fingers_in None = []
fingers_in (Some fingers) = fingers

-- the most fingers that active pilots need: three for the reference's, one for any other
abbrev pub finger_places : Leg → ℕ
finger_places leg = if leg.reference then 3 else 1

abbrev pub places_in : List Leg → ℕ
places_in [] = 0
places_in (leg ∷ legs) = finger_places leg + places_in legs

-- each pilot's finger is close, and has a Walsh row
abbrev pub legs_close : List Leg → Bool
legs_close legs = list_all (λ (leg : Leg). is_close leg.finger) legs

abbrev pub legs_rows : List Leg → Bool
legs_rows legs = list_all (λ (leg : Leg). nat_lt leg.finger.row 64) legs

-- each of the reference's paths is close
abbrev pub paths_close : List ℤ → Bool
paths_close deltas = list_all (λ d. nat_le (unsigned_abs d) half_window_chips) deltas
