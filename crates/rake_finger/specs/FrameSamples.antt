-- The samples that a frame depends on.
use Rattle.rake_finger.specs.Common.{Sample, Form}
use Rattle.std.specs.Prelude.{◌≡◌, ℕ, List, [], ◌∷◌, take, drop}
use Rattle.rake_finger.specs.Soft.{finger_place, frame_chips}
use Rattle.rake_finger.specs.declared.finger.Finger.{Finger}

-- two files agree in each finger's samples of the frame that begins at reference sample u
abbrev pub AgreeIn : List Sample → List Sample → Form → ℕ → List Finger → Type 0
AgreeIn one other form u [] = Unit {0}
AgreeIn one other form u (f ∷ fingers) =
    (take (frame_chips form) (drop (finger_place f u) one)
    ≡ take (frame_chips form) (drop (finger_place f u) other))
    × AgreeIn one other form u fingers
