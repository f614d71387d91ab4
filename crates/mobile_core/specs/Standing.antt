-- The state of a handset, and the effect of a step.
use Rattle.mobile_core.specs.Common.{Sample, IsDueAt, event_list, at_of, pilot_left, Tuning, Event}
use Rattle.mobile_core.specs.Common.{sync_events_left}
use Rattle.std.specs.Prelude.{◌≡◌, ◌⊎◌, ℕ, ◌+◌, ◌-◌, ◌^◌, ◌≤◌, List, ◌++◌, length, take, is_some}
use Rattle.std.specs.Prelude.{None, Option, IfSome, IsTrue}
use Rattle.std.specs.List.{list_any}
use Rattle.std.specs.Option.{ForSome}
use Rattle.chip_core.specs.declared.check_form.CheckForm.{CheckForm}
use Rattle.pilot_search.specs.declared.sweeping.Best.{Best}
use Rattle.rake_finger.specs.Held.{Held, HoldsLast}
use Rattle.heard_events.specs.Events.{events}
use Rattle.heard_events.specs.Marks.{sets_mark}
use Rattle.mobile_core.specs.FollowedChannels.{HearsFollowed, IsFollowedDue, followed_due}
use Rattle.mobile_core.specs.FollowedChannels.{followed_events_left, followed_heard}
use Rattle.mobile_core.specs.SyncReceiving.{HearsSync}
use Rattle.mobile_core.specs.declared.mobile.Mobile.{Mobile}
use Rattle.mobile_core.specs.declared.mobile.Step.{Step}
use Rattle.mobile_core.specs.declared.followed.Followed.{Followed}
use Rattle.mobile_core.specs.declared.sync_receiver.SyncReceiver.{SyncReceiver}

-- the events at the end of these samples that a handset with this pilot and these receivers has not
-- returned yet
abbrev pub left_of : Tuning → Option Best → SyncReceiver → Followed → List Sample → List Event
left_of t pilot sync followed heard =
    pilot_left pilot
    ++ (sync_events_left t heard sync.received.clock.next
    ++ followed_events_left t sync.mark heard followed)

abbrev pub events_left : Tuning → Mobile → List Sample → List Event
events_left t m heard = left_of t m.pilot m.sync m.followed heard

-- A handset with these parts has taken these samples of a file and returned these events. It
-- returns the pilot's event before it takes any sample, and keeps the pilot until then.
pub record Stands (t : Tuning) (count : ℕ) (check : CheckForm) (pilot : Option Best) (kept : Held)
    (receiver : SyncReceiver) (others : Followed) (heard : List Sample)
    (given : List Event) : Type 0 where
  pub count_is : count ≡ t.count
  pub check_is : check ≡ t.check30
  pub early : ForSome pilot (λ best. length heard ≡ 0)
  pub ring : HoldsLast kept heard
  pub sync : HearsSync t receiver heard
  pub followed : HearsFollowed t others receiver.mark heard
  pub noted : is_some receiver.mark ≡ list_any sets_mark given
  pub told : given ++ left_of t pilot receiver others heard ≡ events t heard

abbrev pub StandsFor : Tuning → Mobile → List Sample → List Event → Type 0
StandsFor t m heard given = Stands t m.count m.check m.pilot m.ring m.sync m.followed heard given

-- whether the pilot's event is not returned yet, or something that has come is not decoded yet
abbrev pub IsDueIn : ℕ → Option Best → SyncReceiver → Followed → Type 0
IsDueIn count pilot sync followed =
    IsTrue (is_some pilot) ⊎ (IsDueAt count sync.received.clock ⊎ IsFollowedDue count followed)

abbrev pub IsDueFor : Mobile → Type 0
IsDueFor m = IsDueIn m.count m.pilot m.sync m.followed

-- how much is due: the pilot's event, the frames of the sync channel that have come but are not
-- decoded yet, and what is due in the channels after the mark
abbrev pub due_parts : Mobile → ℕ
due_parts mobile =
    length (pilot_left mobile.pilot)
    + ((mobile.sync.received.clock.have - mobile.sync.received.clock.next)
    + followed_due mobile.followed)

-- the number of samples of the file that are left
abbrev pub has_room : Mobile → ℕ
has_room mobile = mobile.count - mobile.ring.taken

-- how much has been decoded, counting 1 for the pilot's event
abbrev pub heard_of : Mobile → ℕ
heard_of mobile =
    (1 - length (pilot_left mobile.pilot))
    + (mobile.sync.received.clock.next + followed_heard mobile.followed)

-- a bound on the number of events that are not returned yet
abbrev pub steps_left : Mobile → ℕ
steps_left mobile = 2 ^ 63 - heard_of mobile

-- the number of samples that have been taken
abbrev pub samples_taken : Mobile → ℕ
samples_taken mobile = mobile.ring.taken

-- the number of most recent samples that are kept
abbrev pub ring_room : Mobile → ℕ
ring_room mobile = mobile.ring.room

-- Between these two states the handset took the first `taken` of these samples and returned the
-- step's event, if any, which ends at the last sample taken.
pub record Steps (before after : Mobile) (samples : List Sample) (step : Step) : Type 0 where
  pub most : step.taken ≤ length samples
  pub room : has_room after + step.taken ≡ has_room before
  pub fewer : steps_left after + length (event_list step.event) ≤ steps_left before
  pub ends : (t : Tuning) (heard : List Sample) (given : List Event) →
      StandsFor t before heard given →
      IfSome step.event (λ event. at_of event ≡ length heard + step.taken)
  pub stands : (t : Tuning) (heard : List Sample) (given : List Event) →
      StandsFor t before heard given →
      StandsFor t after (heard ++ take step.taken samples) (given ++ event_list step.event)

-- The handset took no sample, and returned this event, or none.
pub record Tells (before after : Mobile) (event : Option Event) : Type 0 where
  pub room : has_room after ≡ has_room before
  pub more : heard_of before + length (event_list event) ≤ heard_of after
  pub told : (t : Tuning) (heard : List Sample) (given : List Event) →
      StandsFor t before heard given →
      IfSome event (λ event. at_of event ≡ length heard)
      × StandsFor t after heard (given ++ event_list event)

-- If it returned none, it took all samples, and has returned every event that ends within them.
pub record IsStep (before after : Mobile) (samples : List Sample) (step : Step) : Type 0 where
  pub steps : Steps before after samples step
  pub none : step.event ≡ None → (step.taken ≡ length samples)
      × ((t : Tuning) (heard : List Sample) (given : List Event) →
      StandsFor t before heard given → given ≡ events t (heard ++ samples))
