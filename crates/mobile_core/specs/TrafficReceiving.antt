-- The states of the receiver of a traffic channel and of its pilot sets.
use Rattle.mobile_core.specs.Common.{Sample, traffic_mask, frames_left_of, messages_left_of, Tuning}
use Rattle.mobile_core.specs.Common.{sets_left_of, Event, Mark, Traffic, SpelledSignal, frame_come}
use Rattle.mobile_core.specs.Common.{IsSoundReceiver, Scrambling}
use Rattle.std.specs.Prelude.{◌≡◌, ◌⊎◌, ℕ, ◌+◌, ◌-◌, ◌*◌, ◌<◌, ◌≤◌, ◌^◌, true, List, ◌∷◌, ◌++◌, min}
use Rattle.std.specs.Prelude.{length, take, sum_by, unsigned_abs, IsTrue, Option, Some, None, ℤ}
use Rattle.std.specs.Prelude.{is_some, if◌then◌else◌, Bool, false}
use Rattle.chip_core.specs.Air.{data_frame_chips}
use Rattle.frame_decoder.specs.TrafficFrames.{summed_subchannels}
use Rattle.frame_decoder.specs.declared.power.PowerSofts.{PowerSofts}
use Rattle.pilot_search.specs.declared.paths.Near.{Near}
use Rattle.pilot_sets.specs.Standing.{Standing, new_standing}
use Rattle.quality_bits.specs.Pieces.{CapsuleStandsFor}
use Rattle.rake_finger.specs.declared.finger.Finger.{Finger}
use Rattle.rake_finger.specs.Near.{AreClose}
use Rattle.heard_events.specs.Close.{paths_close, places_in}
use Rattle.heard_events.specs.Legs.{all_fingers, legs_of}
use Rattle.heard_events.specs.Moments.{heard_from, kept_to, legs_by, moment_of, moment_place}
use Rattle.heard_events.specs.Noted.{all_noted, noted_with}
use Rattle.heard_events.specs.SetsKeeping.{IsSoundKeeper, coming_place}
use Rattle.heard_events.specs.Signaling.{message_events, signals_before}
use Rattle.heard_events.specs.TrafficEvents.{all_sums, raw_softs}
use Rattle.heard_events.specs.TrafficStreams.{frame_known, frame_state, traffic_start}
use Rattle.heard_events.specs.declared.leg.Leg.{Leg}
use Rattle.heard_events.specs.declared.sets_keeper.SetsKeeper.{SetsKeeper}
use Rattle.mobile_core.specs.declared.soft_handoff.SoftHandoff.{SoftHandoff}
use Rattle.mobile_core.specs.declared.traffic_receiver.TrafficReceiver.{TrafficReceiver}
use Rattle.heard_events.specs.Close as closes

-- THE PILOT SETS
-- a receiver together with its sets
abbrev pub beside : SetsKeeper → TrafficReceiver → SoftHandoff
beside sets receiver = record { receiver = receiver; sets = sets }

-- the sets at the mark: they are new, and no moment has passed
abbrev pub first_keeper : Mark → ℕ → SetsKeeper
first_keeper m row = record { sets = new_standing m.pilot row; mark = m; passed = 0; due = false }

-- THE EVENTS THAT ARE LEFT
-- The events that a receiver has not returned yet, given the sets kept after each moment. The
-- message that the receiver keeps comes first.
abbrev pub told_left_with : Tuning → Traffic → Mark → List Sample → TrafficReceiver →
    (ℕ → Standing) → List Event
told_left_with t traffic m samples r kept =
    message_events (length samples) r.kept
    ++ (frames_left_of t traffic m (legs_by traffic m kept) samples r.frames.clock.next
    ++ messages_left_of t traffic m (legs_by traffic m kept) samples r.frames.clock.next)

-- the sets kept after the moments that have passed
abbrev pub kept_in : Tuning → Traffic → Mark → SoftHandoff → List Sample → (ℕ → Standing)
kept_in t traffic m r heard = kept_to t traffic m heard r.sets.passed

-- all events that are not returned yet, that of the moment last
abbrev pub traffic_left_of : Tuning → Traffic → Mark → List Sample → SoftHandoff → List Event
traffic_left_of t traffic m samples r =
    told_left_with t traffic m samples r.receiver (kept_in t traffic m r samples)
    ++ sets_left_of t traffic m samples r.sets.passed

-- WHAT THEY STAND FOR
-- the fingers of the pilots from which the next frame is received
abbrev pub receiver_fingers : TrafficReceiver → List Finger
receiver_fingers r = all_fingers r.phase (take r.near.count r.near.deltas) r.legs

-- the number of samples taken when that frame ends, or at the next moment if that is earlier
abbrev pub next_end : SoftHandoff → ℕ
next_end r = min r.receiver.frames.clock.end (coming_place r.sets)

-- the next frame and the next moment end after `taken` samples; a moment that is due is at `taken`
pub record WaitsAt (taken : ℕ) (r : SoftHandoff) : Type 0 where
  pub before : taken < next_end r
  pub due : r.sets.due ≡ true → taken ≡ moment_place r.sets.mark (r.sets.passed + 1)

-- the parts of a receiver that never change are those of this channel after this mark
pub record IsTunedIn (t : Tuning) (traffic : Traffic) (m mark : Mark) (phase : ℕ) (near : Near)
    (turns : Scrambling) : Type 0 where
  pub mark_is : mark ≡ m
  pub phase_is : phase ≡ t.phase
  pub deltas_are : take near.count near.deltas ≡ t.deltas
  pub state_is : turns.state ≡ frame_state traffic m 0
  pub mask_is : turns.mask ≡ traffic_mask traffic.esn
  pub offset : traffic.offset ≤ 15

-- the position of `taken` samples among the moments of a file: `passed` moments have passed, and if
-- the next is due, it is at `taken`
pub record IsAmongMoments (m : Mark) (count taken passed : ℕ) (due : Bool) : Type 0 where
  pub within : taken ≤ count
  pub begun : 0 < passed → moment_place m passed ≤ taken
  pub coming : taken ≤ moment_place m (passed + 1)
  pub due_is : due ≡ true → taken ≡ moment_place m (passed + 1)

-- frame k has just come, and its soft values are these
pub record HasCome (t : Tuning) (traffic : Traffic) (m : Mark) (legs : ℕ → List Leg)
    (heard : List Sample) (k : ℕ) (values : List ℤ) (power : PowerSofts) : Type 0 where
  pub known : frame_known t traffic m legs k ≡ length heard
  pub softs_are : values ≡ raw_softs t traffic m legs heard k
  pub power_is : summed_subchannels power ≡ all_sums t traffic m legs heard k

-- Frame `have`, the next to come, begins at `start`. If a frame has come that is not decoded yet,
-- it is frame `next`. The framer has taken the signaling of the frames before frame `next`.
pub record HasReceived (t : Tuning) (traffic : Traffic) (m : Mark) (legs : ℕ → List Leg)
    (heard : List Sample) (next have start : ℕ) (values : List ℤ) (power : PowerSofts)
    (framer : Option (List Bool)) : Type 0 where
  pub start_is : start ≡ traffic_start traffic m have
  pub ended : (k : ℕ) → k < next → frame_known t traffic m legs k ≤ length heard
  pub come : next < have → HasCome t traffic m legs heard next values power
  pub framed : CapsuleStandsFor framer (signals_before t traffic m legs heard next)

-- The receiver has taken these samples; its sets have not noted the events `pages` of the paging
-- channel. `kept` are the sets kept after each moment that has passed; if a moment before moment
-- `until` determines the pilots of the next frame, they are set. Once the sets have noted every
-- event that is left, they are those of the definition. A moment passes only if no event is left.
pub record HearsUpTo (until : ℕ) (t : Tuning) (traffic : Traffic) (m : Mark) (r : SoftHandoff)
    (heard : List Sample) (pages : List Event) (kept : ℕ → Standing) : Type 0 where
  pub tuned : IsTunedIn t traffic m r.sets.mark r.receiver.phase r.receiver.near
      r.receiver.frames.scrambling
  pub among : IsAmongMoments m t.count (length heard) r.sets.passed r.sets.due
  pub frames : HasReceived t traffic m (legs_by traffic m kept) heard r.receiver.frames.clock.next
      r.receiver.frames.clock.have r.receiver.frames.clock.start r.receiver.softs r.receiver.power
      r.receiver.framer
  pub close : (i : ℕ) → AreClose (all_fingers t.phase t.deltas (legs_of m (kept i)))
  pub legs_are : moment_of traffic r.receiver.frames.clock.have < until →
      r.receiver.legs ≡ legs_by traffic m kept r.receiver.frames.clock.have
  pub pilots_are : legs_of m r.sets.sets ≡ legs_of m (kept r.sets.passed)
  pub following : (event : Event) (rest : List Event) →
      pages ++ told_left_with t traffic m heard r.receiver kept ≡ event ∷ rest →
      0 < r.sets.passed → moment_place m r.sets.passed < length heard
  pub sets_are : all_noted m (pages ++ told_left_with t traffic m heard r.receiver kept) r.sets.sets
      ≡ heard_from t traffic m kept heard r.sets.passed
      (length heard - moment_place m r.sets.passed)

-- all moments that have passed have set the pilots, or all but the last
abbrev pub HearsWith : Tuning → Traffic → Mark → SoftHandoff → List Sample → List Event →
    (ℕ → Standing) → Type 0
HearsWith t traffic m r = HearsUpTo (r.sets.passed + 1) t traffic m r

abbrev pub HearsTraffic : Tuning → Traffic → Mark → SoftHandoff → List Sample → List Event → Type 0
HearsTraffic t traffic m r heard pages =
    HearsWith t traffic m r heard pages (kept_in t traffic m r heard)

abbrev pub HearsUntuned : Tuning → Traffic → Mark → SoftHandoff → List Sample → List Event → Type 0
HearsUntuned t traffic m r heard pages =
    HearsUpTo r.sets.passed t traffic m r heard pages (kept_in t traffic m r heard)

-- What was due first is returned, and the rest is left. The sets have not noted `pages` yet.
abbrev pub GivesFirst : Tuning → Traffic → Mark → List Sample → SoftHandoff → SoftHandoff →
    List Event → List Event → Type 0
GivesFirst t traffic m heard before after given pages =
    HearsTraffic t traffic m after heard pages
    × (given ++ traffic_left_of t traffic m heard after
    ≡ traffic_left_of t traffic m heard before)

-- whether a message is kept, or a frame has come that is not decoded yet
abbrev pub HasToTell : TrafficReceiver → Type 0
HasToTell r = IsTrue (is_some r.kept) ⊎ (r.frames.clock.next < r.frames.clock.have)

-- whether the receiver has something to return, or a moment has come that has not passed
abbrev pub IsTrafficDue : SoftHandoff → Type 0
IsTrafficDue r = HasToTell r.receiver ⊎ IsTrue r.sets.due

-- the number of messages that are kept
abbrev pub messages_kept : Option SpelledSignal → ℕ
messages_kept None = 0
messages_kept (Some message) = 1

-- how much has been decoded, and how much has come that is not decoded yet; each frame counts as
-- two, itself and the message that it completes
abbrev pub told_heard : TrafficReceiver → ℕ
told_heard r = 2 * r.frames.clock.next + 1 - messages_kept r.kept

abbrev pub told_due : TrafficReceiver → ℕ
told_due r = 2 * (r.frames.clock.have - r.frames.clock.next) + messages_kept r.kept

-- the same, including the moments
abbrev pub traffic_heard : SoftHandoff → ℕ
traffic_heard r = told_heard r.receiver + r.sets.passed

abbrev pub traffic_due : SoftHandoff → ℕ
traffic_due r = told_due r.receiver + (if r.sets.due then 1 else 0)

-- the sets after they have noted an event
abbrev pub noted_by : Event → SoftHandoff → SoftHandoff
noted_by event r =
    record r {
      sets = record r.sets {
        sets = noted_with r.sets.mark.pilot (r.sets.mark.time + (r.sets.passed + 1)) event
            r.sets.sets;
      };
    }

-- the receiver with other pilots for the next frame, and that frame's end on their fingers
abbrev pub tuned_to : List Leg → ℕ → List Finger → TrafficReceiver → TrafficReceiver
tuned_to legs end fingers r =
    record r {
      frames = record r.frames {
        clock = record r.frames.clock { end = end };
        fingers = fingers;
      };
      legs = legs;
    }

-- the receiver after the frame with these soft values has come
abbrev pub frame_taken : List ℤ → PowerSofts → TrafficReceiver → TrafficReceiver
frame_taken softs power r =
    record r {
      frames = record r.frames { clock = frame_come r.frames.clock };
      softs = softs;
      power = power;
    }

-- one to six pilots, whose fingers fit into eight places
pub record HasSoundLegs (legs : List Leg) : Type 0 where
  pub some : 1 ≤ length legs
  pub few : places_in legs ≤ 8
  pub legs_close : closes.legs_close legs ≡ true
  pub legs_rows : closes.legs_rows legs ≡ true

-- near paths
pub record IsSoundlySet (near : Near) : Type 0 where
  pub least : 1 ≤ near.count
  pub most : near.count ≤ 3
  pub path_some : 1 ≤ length (take near.count near.deltas)
  pub paths : paths_close (take near.count near.deltas) ≡ true

-- the fingers are those of the pilots, and the soft values are small enough for a decoder
pub record IsSoundTraffic (r : TrafficReceiver) : Type 0 where
  pub set : IsSoundlySet r.near
  pub frames : IsSoundReceiver r.frames
  pub fingers_are : r.frames.fingers ≡ receiver_fingers r
  pub have_most : r.frames.clock.have ≤ r.frames.clock.next + 1
  pub start_least : 2 ^ 16 + data_frame_chips * r.frames.clock.have ≤ r.frames.clock.start
  pub start_most : r.frames.clock.start ≤ 2 ^ 29 + 2 ^ 16
  pub legs : HasSoundLegs r.legs
  pub small : sum_by unsigned_abs r.softs ≤ 3 * 2 ^ 60
  pub subchannels : r.power.count ≤ 6

-- a sound receiver and sound sets; the frames begin at the mark of the sets or later
pub record IsSoundHandoff (r : SoftHandoff) : Type 0 where
  pub receiver : IsSoundTraffic r.receiver
  pub keeper : IsSoundKeeper r.sets
  pub begun : r.sets.mark.sample ≤ r.receiver.frames.clock.start
