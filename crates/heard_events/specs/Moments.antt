-- The moments at which a handset measures its pilots (after TIA/EIA-95-B, 6.6.6.2).
use Rattle.heard_events.specs.Common.{superframe_chips, places, Sample, Standing, change_at, due_at}
use Rattle.heard_events.specs.Common.{new_standing, shown, stepped, window_number, Event, Sets, Leg}
use Rattle.heard_events.specs.Common.{Mark, Traffic}
use Rattle.std.specs.Prelude.{ℕ, zero, suc, ◌+◌, ◌-◌, ◌*◌, ◌/◌, ◌==◌, ◌||◌, if◌then◌else◌, List, []}
use Rattle.std.specs.Prelude.{◌∷◌, ◌++◌, map, take, pos, nat_le, Some}
use Rattle.std.specs.List.{flat_map}
use Rattle.pilot_sets.specs.PilotSets.{candidate_pilots, pilots}
use Rattle.pilot_sets.specs.Tables.{search_window_chips}
use Rattle.pilot_sets.specs.declared.change.SetChange.{SetChange}
use Rattle.pilot_sets.specs.declared.strengths.Strength.{Strength}
use Rattle.rake_finger.specs.Strengths.{sample_power, samples_before, strength_before}
use Rattle.heard_events.specs.Legs.{legs_of, pilot_phase}
use Rattle.heard_events.specs.Noted.{all_noted}
use Rattle.heard_events.specs.PagingEvents.{page_event, pages_if_marked}
use Rattle.heard_events.specs.Signaling.{messages_by}
use Rattle.heard_events.specs.TrafficEvents.{frames_by}
use Rattle.heard_events.specs.TrafficStreams.{chips_after}
use Rattle.heard_events.specs.Tuning.{Tuning}
use Rattle.rake_finger.specs.Strengths as measured

-- Moment j lies j superframes after the mark, and its time is j units of 80 ms later. Moment 0 is
-- the mark itself, where nothing is measured.
abbrev pub moment_place : Mark → ℕ → ℕ
moment_place m j = m.sample + superframe_chips * j

-- ONE MOMENT
-- the strength of a pilot in the 512 samples before `place`, within the sets' window for it
abbrev pub strength_at : Mark → List Sample → ℕ → Standing → ℕ → measured.Strength
strength_at m samples place s p =
    strength_before samples (pilot_phase m p (pos 0)) (search_window_chips (window_number s.sets p))
    place

abbrev pub pilot_strength : Mark → List Sample → ℕ → Standing → ℕ → Strength
pilot_strength m samples place s p = record {
  pilot = p;
  energy = (strength_at m samples place s p).energy;
  delta = (strength_at m samples place s p).delta;
}

abbrev pub strengths_at : Mark → List Sample → ℕ → Standing → List Strength
strengths_at m samples place s = map (pilot_strength m samples place s) (pilots s.sets)

abbrev pub power_at : List Sample → ℕ → ℕ
power_at samples place = sample_power (samples_before samples place)

-- The sets after moment j. The direction for its time takes effect; then all pilots of the sets are
-- measured and moved.
unfoldable pub passed : Mark → List Sample → ℕ → Standing → Standing
passed m samples j s =
    let place = moment_place m j in
    let began = due_at (m.time + j) s in
    stepped (strengths_at m samples place began) (power_at samples place) (m.time + j) began

-- the changes at moment j
unfoldable pub changed : Mark → List Sample → ℕ → Standing → SetChange
changed m samples j s =
    let place = moment_place m j in
    let began = due_at (m.time + j) s in
    change_at (strengths_at m samples place began) (power_at samples place) (m.time + j) began

-- There is an event if a list changed or a report is due.
abbrev pub moment_events : Mark → ℕ → SetChange → Standing → List Event
moment_events m j change s =
    if change.changed || change.report
    then Sets (moment_place m j) (m.time + j) (shown s) (candidate_pilots s.sets) change.report
    ∷ []
    else []

-- FROM MOMENT TO MOMENT
-- the last moment at or before the first sample of frame k
abbrev pub moment_of : Traffic → ℕ → ℕ
moment_of traffic k = chips_after traffic k / superframe_chips

-- the active pilots of each frame, from the sets kept after each moment
abbrev pub legs_by : Traffic → Mark → (ℕ → Standing) → ℕ → List Leg
legs_by traffic m kept k = legs_of m (kept (moment_of traffic k))

-- the frames and messages after the mark that end at n samples, from these samples
unfoldable pub told_by : Tuning → Traffic → Mark → (ℕ → List Leg) → List Sample → ℕ → List Event
told_by t traffic m legs samples n =
    let first = take n samples in
    map (page_event n) (pages_if_marked t t.paging (Some m) first n)
    ++ (frames_by t traffic m legs first n ++ messages_by t traffic m legs first n)

-- the sets after moment j, updated by what is received in the `count` samples that follow
unfoldable pub heard_from : Tuning → Traffic → Mark → (ℕ → Standing) → List Sample → ℕ → ℕ →
    Standing
heard_from t traffic m kept samples j count =
    all_noted m
    (flat_map (λ i. told_by t traffic m (legs_by traffic m kept) samples (moment_place m j + i + 1))
    (places count))
    (kept j)

-- The sets kept after each moment up to j, by its number. Later moments aren't known yet, and have
-- the sets of moment j. All of these depend only on the samples before moment j.
unfoldable pub kept_to : Tuning → Traffic → Mark → List Sample → ℕ → (ℕ → Standing)
kept_to t traffic m samples zero = λ i. new_standing m.pilot traffic.row
kept_to t traffic m samples (suc j) =
    let kept = kept_to t traffic m samples j in
    let first = take (moment_place m (suc j)) samples in
    λ i.
    if nat_le i j then kept i
    else passed m first (suc j) (heard_from t traffic m kept first j superframe_chips)

-- AT A NUMBER OF SAMPLES
-- how many moments lie before n samples, not counting the mark
abbrev pub moments_before : Mark → ℕ → ℕ
moments_before m n = (n - (m.sample + 1)) / superframe_chips

abbrev pub kept_at : Tuning → Traffic → Mark → List Sample → ℕ → (ℕ → Standing)
kept_at t traffic m samples n = kept_to t traffic m samples (moments_before m n)

abbrev pub legs_at : Tuning → Traffic → Mark → List Sample → ℕ → (ℕ → List Leg)
legs_at t traffic m samples n = legs_by traffic m (kept_at t traffic m samples n)

-- the frames that end at n samples, and the messages that they complete
abbrev pub frames_at : Tuning → Traffic → Mark → List Sample → ℕ → List Event
frames_at t traffic m samples n =
    frames_by t traffic m (legs_at t traffic m samples n) (take n samples) n

abbrev pub messages_at : Tuning → Traffic → Mark → List Sample → ℕ → List Event
messages_at t traffic m samples n =
    messages_by t traffic m (legs_at t traffic m samples n) (take n samples) n

-- the event of moment j, from the sets before it
abbrev pub sets_events : Mark → List Sample → ℕ → Standing → List Event
sets_events m samples j s = moment_events m j (changed m samples j s) (passed m samples j s)

-- the event of the moment at n samples, if one lies there
unfoldable pub sets_at : Tuning → Traffic → Mark → List Sample → ℕ → List Event
sets_at t traffic m samples n =
    let j = moments_before m n in
    let first = take n samples in
    if moment_place m (j + 1) == n
    then sets_events m first (j + 1)
    (heard_from t traffic m (kept_to t traffic m samples j) first j superframe_chips)
    else []
