-- A listener of any kind during a run: the samples taken, the text written, and the bytes left.
use Rattle.run_replies.specs.Common.{HasBits, KeptTap, Sample, Width, sample_spelling}
use Rattle.std.specs.Prelude.{◌≡◌, ℕ, List, [], ◌++◌, length, All, Option}
use Rattle.std.specs.List.{flat_map}
use Rattle.std.specs.Io.KnownBytes.{Appends, Consumes}
use Rattle.run_replies.specs.Hearing.{GainsText, Listening, told}

-- for listeners of a type: this one implements this `Listening` and has taken these samples, all of
-- their text was written, and these taps are kept after them
abbrev pub IsHearing : Type 0 → Type 1
IsHearing L = Listening → L → List KeptTap → List Sample → Type 0

-- a listener has taken no sample, and a sink received the text before any sample: that of the first
-- samples, or the pilot's if taps receive the events of a handset
pub record BeginsAfter {L : Type 0} (hearing : IsHearing L) (l : Listening) (listener : L)
    (kept : List KeptTap) (old new : Option (List ℕ)) : Type 0 where
  pub written : Appends old new (told l [])
  pub listens : hearing l listener kept []

-- a listener has taken these samples, and a sink received their text after that of the earlier ones
pub record ListenerTells {L : Type 0} (hearing : IsHearing L) (l : Listening) (listener : L)
    (kept : List KeptTap) (before heard : List Sample) (old new : Option (List ℕ)) : Type 0 where
  pub more : GainsText l before heard old new
  pub listens : hearing l listener kept heard

-- the spellings of `count` samples were taken from a source, and the listener took these samples
pub record HearsRest {L : Type 0} (hearing : IsHearing L) (l : Listening) (width : Width)
    (count : ℕ) (listener : L) (kept : List KeptTap) (heard : List Sample)
    (rest left old new : Option (List ℕ)) : Type 0 where
  pub samples : List Sample
  pub counted : length samples ≡ count
  pub in_range : All (HasBits width) samples
  pub consumed : Consumes rest left (flat_map (sample_spelling width) samples)
  pub tells : ListenerTells hearing l listener kept heard (heard ++ samples) old new
