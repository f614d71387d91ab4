-- A handset ahead of the mark, and one that has just set it.
use Rattle.tuned_listener.specs.Common.{Sample, mark, sets_mark, StandsFor, Tuning, Mark, Mobile}
use Rattle.std.specs.Prelude.{◌≡◌, false, List, length, None, Some}
use Rattle.std.specs.List.{list_any}
use Rattle.heard_events.specs.declared.event.Event.{Event}

-- no event that a handset returned for these samples sets a mark
pub record HasNoMark (t : Tuning) (mobile : Mobile) (heard : List Sample) : Type 0 where
  pub given : List Event
  pub stands : StandsFor t mobile heard given
  pub unset : list_any sets_mark given ≡ false

-- it has taken samples of some file, and returned no event that sets a mark
pub record HearsUntold (mobile : Mobile) : Type 0 where
  pub tuning : Tuning
  pub heard : List Sample
  pub has : HasNoMark tuning mobile heard

abbrev pub IsUntold : Mobile → Type 0
IsUntold mobile = ∥ HearsUntold mobile ∥₁

-- it has taken these samples, which set no mark
pub record ListensAhead (t : Tuning) (mobile : Mobile) (heard : List Sample) : Type 0 where
  pub has : HasNoMark t mobile heard
  pub unmarked : mark t heard (length heard) ≡ None

-- the samples that it has taken set this mark
pub record IsMarkedAt (t : Tuning) (mobile : Mobile) (m : Mark) (heard : List Sample) : Type 0 where
  pub given : List Event
  pub stands : StandsFor t mobile heard given
  pub marked : mark t heard (length heard) ≡ Some m
