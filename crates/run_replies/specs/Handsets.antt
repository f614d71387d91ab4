-- A handset during a run, and the taps that receive its events.
use Rattle.run_replies.specs.Common.{Event, KeptTap, Sample, Tuning, events, run_text}
use Rattle.std.specs.Prelude.{◌≡◌, ℕ, List, [], ◌++◌, Option}
use Rattle.std.specs.Io.KnownBytes.{Appends}
use Rattle.event_tap.specs.Taps.{run_taps}
use Rattle.mobile_core.specs.Standing.{StandsFor}
use Rattle.mobile_core.specs.declared.mobile.Mobile.{Mobile}
use Rattle.pilot_search.specs.BestIn.{IsBestIn}
use Rattle.pilot_search.specs.declared.sweeping.Best.{Best}
use Rattle.run_replies.specs.Hearing.{ByTaps, told}

-- the phase with the greatest energy of all 32,768, and that energy
abbrev pub IsBest : List Sample → Best → Type 0
IsBest first best = IsBestIn first 0 32768 best.phase best.energy

-- a handset has taken these samples and returned all of their events, and these taps are kept after
-- that
abbrev pub HandsetGave : Tuning → List KeptTap → Mobile → List KeptTap → List Sample → Type 0
HandsetGave t taps mobile kept heard =
    StandsFor t mobile heard (events t heard) × (kept ≡ run_taps taps (events t heard))

-- a handset has returned more events after these, and a sink received their text
pub record HasTold (t : Tuning) (taps : List KeptTap) (mobile : Mobile) (kept : List KeptTap)
    (given : List Event) (heard : List Sample) (old new : Option (List ℕ)) : Type 0 where
  pub more : List Event
  pub written : Appends old new (run_text (run_taps taps given) more)
  pub stands : StandsFor t mobile heard (given ++ more)
  pub following : kept ≡ run_taps taps (given ++ more)

-- taps received a handset's pilot, a sink received the text before any sample, and these taps are
-- kept after that
pub record TellsPilot (t : Tuning) (taps : List KeptTap) (mobile : Mobile) (kept : List KeptTap)
    (old new : Option (List ℕ)) : Type 0 where
  pub written : Appends old new (told (ByTaps t taps) [])
  pub gives : HandsetGave t taps mobile kept []
