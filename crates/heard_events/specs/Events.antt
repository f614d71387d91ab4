-- All events of a handset: the pilot, and what it receives.
use Rattle.heard_events.specs.Common.{places, Sample, Event, Pilot, Mark}
use Rattle.std.specs.Prelude.{ℕ, ◌+◌, List, [], ◌∷◌, ◌++◌, length, map, Option, Some}
use Rattle.std.specs.List.{flat_map}
use Rattle.std.specs.Option.{option_map}
use Rattle.heard_events.specs.Marks.{mark}
use Rattle.heard_events.specs.Moments.{frames_at, messages_at, sets_at}
use Rattle.heard_events.specs.PagingEvents.{page_event, pages_if_marked}
use Rattle.heard_events.specs.SyncEvents.{sync_events_at}
use Rattle.heard_events.specs.TrafficEvents.{if_followed}
use Rattle.heard_events.specs.Tuning.{Tuning}
use Rattle.heard_events.specs.declared.channel.CodeChannel.{CodeChannel}
use Rattle.heard_events.specs.declared.channel.CodeChannel.TheVariants.{Paging, Traffic}

-- THE CHANNELS AFTER THE MARK
-- The events of a channel that end at n samples. On a traffic channel the frames come first, then
-- the messages that they complete, then the event of the pilot sets.
abbrev pub told_on : Tuning → List Sample → ℕ → CodeChannel → Mark → List Event
told_on t samples n (Paging channel) m =
    map (page_event n) (pages_if_marked t channel (Some m) samples n)
told_on t samples n (Traffic traffic) m =
    (frames_at t traffic m samples n ++ messages_at t traffic m samples n)
    ++ sets_at t traffic m samples n

-- the same for a channel, if one is followed, after the mark, if it is set
abbrev pub told_after : Tuning → Option CodeChannel → Option Mark → List Sample → ℕ → List Event
told_after t followed mark samples n = if_followed (told_on t samples n) followed mark

-- the channels that may be followed, in the order of their events
abbrev pub channels : Tuning → List (Option CodeChannel)
channels t = Some (Paging t.paging) ∷ option_map Traffic t.traffic ∷ []

-- the events of all of them that end at n samples
abbrev pub followed_after : Tuning → Option Mark → List Sample → ℕ → List Event
followed_after t mark samples n =
    flat_map (λ followed. told_after t followed mark samples n) (channels t)

-- ALL CHANNELS
-- All events that end at n samples; those of the sync channel come first.
unfoldable pub events_at : Tuning → List Sample → ℕ → List Event
events_at t samples n = sync_events_at t samples n ++ followed_after t (mark t samples n) samples n

-- the events that are received within the first n samples, in order
unfoldable pub heard_within : Tuning → List Sample → ℕ → List Event
heard_within t samples n = flat_map (events_at t samples) (places (n + 1))

-- The events that end within the first n samples. The first is the pilot, which is found before any
-- sample is taken.
abbrev pub events_within : Tuning → List Sample → ℕ → List Event
events_within t samples n = Pilot t.phase t.energy ∷ heard_within t samples n

-- the events of all samples
abbrev pub events : Tuning → List Sample → List Event
events t samples = events_within t samples (length samples)
