-- A file of 1,228,800 samples whose pilot has phase 64, as the checker computes it.
use Rattle.heard_events.specs.Common.{places, Decoded, PagingMessage, Standing, R9600, SyncFields}
use Rattle.heard_events.specs.Common.{is_in_file, known_at, span_frames, fingers_of, Mark, Traffic}
use Rattle.std.specs.Prelude.{◌≡◌, refl, ℕ, Bool, true, false, List, [], ◌∷◌, map, replicate, ℤ}
use Rattle.std.specs.Prelude.{pos, negsuc, Some, None}
use Rattle.chip_core.specs.declared.check_form.CheckForm.TheVariants.{Plain}
use Rattle.pilot_sets.specs.PilotSets.{new_sets}
use Rattle.traffic_message.specs.Multiplex.{split, split_9600}
use Rattle.heard_events.specs.Marks.{marks_of, frames_with}
use Rattle.heard_events.specs.Legs.{all_fingers, legs_of, subchannels}
use Rattle.heard_events.specs.Events.{told_after}
use Rattle.heard_events.specs.Moments.{moment_of, moments_before}
use Rattle.heard_events.specs.Near.{low_of}
use Rattle.heard_events.specs.Noted.{body_noted, moment_from, page_noted}
use Rattle.heard_events.specs.PagingEvents.{pages_if_marked}
use Rattle.heard_events.specs.PagingStreams.{paging_stream}
use Rattle.heard_events.specs.Signaling.{signal_of}
use Rattle.heard_events.specs.TrafficStreams.{traffic_stream}
use Rattle.heard_events.specs.Streams.{Stream}
use Rattle.heard_events.specs.Tuning.{Tuning, sync_stream}
use Rattle.paging_message.specs.declared.message.PagingMessage.TheVariants as pages
use Rattle.traffic_message.specs.declared.body.TrafficBody.TheVariants as bodies

abbrev tuned : ℕ → List ℤ → Tuning
tuned phase deltas = record {
  count = 1228800;
  phase = phase;
  energy = 0;
  deltas = deltas;
  check30 = Plain;
  check16 = Plain;
  paging = 1;
  traffic = None;
}

-- a handset with one path
abbrev alone : Tuning
alone = tuned 64 (pos 0 ∷ [])

-- THE SYNC CHANNEL
-- a message of seven frames that begins with frame 0 is known when frame 7 has ended; the last two
-- frames are known together: the last is decoded with only the frame before it
sync_known : map (known_at 1228800 (sync_stream alone)) (6 ∷ 34 ∷ 35 ∷ [])
    ≡ 294848 ∷ 1212352 ∷ 1212352 ∷ []
sync_known = refl

-- the first of these frames is known 4 samples later if a path comes 4 chips later
seventh_late : known_at 1228800 (sync_stream (tuned 64 (pos 0 ∷ pos 2 ∷ negsuc 3 ∷ []))) 6 ≡ 294852
seventh_late = refl

last_span : span_frames 1228800 (sync_stream alone) 35 ≡ 2
last_span = refl

none_past_end : is_in_file 1228800 (sync_stream alone) 36 ≡ false
none_past_end = refl

-- the first frame is frame 1 if a path comes earlier than the file begins
first_frame : low_of (tuned 0 (pos 0 ∷ pos 1 ∷ [])) ≡ 1
first_frame = refl

-- a capsule of 200 bits takes three superframes, so its mark lies seven superframes after the start
-- of its first frame, less the pilot's offset
abbrev worked_sync : ℕ → SyncFields
worked_sync lc = record {
  prev = 3;
  min = 1;
  sid = 1;
  nid = 2;
  pn = 511;
  lc = lc;
  time = 1007;
  lp = 13;
  ltm = 0;
  daylt = 0;
  prat = 0;
  freq = None;
  rest = false ∷ false ∷ false ∷ [];
}

-- the mark of that file, after 28 frames of 20 ms
abbrev paged : ℕ → Mark
paged prat = record {
  sample = 688128;
  time = 1007;
  state = 0x102a1d2e508;
  pilot = 511;
  prat = prat;
}

-- a message whose long-code state is 0 sets no mark
no_mark_of_state_zero : map
    (λ lc. marks_of 32704
    (Some (record { capsule = replicate 200 true; message = worked_sync lc })))
    (0x102a1d2e508 ∷ 0 ∷ []) ≡ (paged 0 ∷ []) ∷ [] ∷ []
no_mark_of_state_zero = refl

-- a message goes on, one has not begun, and one begins again
open_frames : frames_with false 6 ∷ frames_with false 0 ∷ frames_with true 3 ∷ [] ≡ 7 ∷ 0 ∷ 1 ∷ []
open_frames = refl

-- THE PAGING CHANNEL
abbrev pages_of : ℕ → Stream
pages_of prat = paging_stream alone 1 (paged prat)

-- the frame at the mark is known when the next one has ended, two frames after the mark; the last
-- two of the 22 frames in the file are known together, at its end
pages_known : map (known_at 1228800 (pages_of 0)) (0 ∷ 20 ∷ 21 ∷ [])
    ≡ 737280 ∷ 1228800 ∷ 1228800 ∷ []
pages_known = refl

no_page : is_in_file 1228800 (pages_of 0) 22 ≡ false
no_page = refl

-- PRAT 1 halves the bits of a frame; with PRAT 2 no channel is received
half_rate : (pages_of 1).channel.bits ≡ 96
half_rate = refl

no_rate : pages_if_marked alone 1 (Some (paged 2)) [] 0 ≡ []
no_rate = refl

-- A TRAFFIC CHANNEL
-- one whose frames begin three times 1,536 chips after the mark
abbrev assigned : Traffic
assigned = record { esn = 0xabcd; row = 10; offset = 3 }

abbrev worked_frames : ℕ → Stream
worked_frames prat = traffic_stream assigned (paged prat) (fingers_of 10 64 (pos 0 ∷ []))

-- its first frame is known when it ends, with any PRAT; 21 of its frames lie in the file
frames_known : known_at 1228800 (worked_frames 2) 0 ∷ known_at 1228800 (worked_frames 0) 20 ∷ []
    ≡ 717312 ∷ 1208832 ∷ []
frames_known = refl

no_frame : is_in_file 1228800 (worked_frames 0) 21 ≡ false
no_frame = refl

-- there are no events if no channel is assigned
unassigned : told_after alone None (Some (paged 0)) [] 0 ≡ []
unassigned = refl

-- a frame of 9,600 bits a second with the given MM and TT; all after them is other traffic
abbrev mixed : Bool → Bool → Bool → Decoded
mixed good mm tt' = record {
  rate = R9600;
  good = good;
  bits = mm ∷ tt' ∷ true ∷ true ∷ replicate 168 true;
  score = pos 1;
}

-- it has signaling if it is good, MM is 1, and TT is 0
signaling : map signal_of
    (mixed true true false ∷ mixed true true true ∷ mixed true false false ∷ mixed false true false
    ∷ [])
    ≡ Some (replicate 168 true) ∷ None ∷ None ∷ None ∷ []
unfolding split split_9600
signaling = refl

-- THE PILOT SETS
-- an event at the sample of a moment comes before the moment
before_moments : map (moments_before (paged 0)) (786432 ∷ 786433 ∷ []) ≡ 0 ∷ 1 ∷ []
before_moments = refl

-- a message's first moment is the one at its end, or the next one; before the mark it is moment 1
from_moments : map (moment_from (paged 0)) (786432 ∷ 786433 ∷ 688128 ∷ []) ≡ 1 ∷ 2 ∷ 1 ∷ []
from_moments = refl

-- four frames are received from the pilots that are active after a moment
of_moments : map (moment_of assigned) (3 ∷ 4 ∷ []) ≡ 0 ∷ 1 ∷ []
of_moments = refl

-- the reference's pilot is active on row 10, and pilot 3 on row 20, five chips early
abbrev two_pilots : Standing
two_pilots = record {
  sets = record (new_sets 511 10) {
    active =
        record { pilot = 511; row = 10; subchannel = 0; timer = None }
        ∷ record { pilot = 3; row = 20; subchannel = 1; timer = None }
        ∷ [];
  };
  began = None;
  deltas = pos 0 ∷ pos 0 ∷ pos 0 ∷ pos 5 ∷ [];
}

-- a handset with two paths then has three fingers, on two subchannels
three_fingers : all_fingers 64 (pos 0 ∷ negsuc 2 ∷ []) (legs_of (paged 0) two_pilots)
    ≡ record { phase = 64; delta = pos 0; row = 10 }
    ∷ record { phase = 61; delta = negsuc 2; row = 10 }
    ∷ record { phase = 32581; delta = pos 5; row = 20 }
    ∷ []
three_fingers = refl

two_subchannels : subchannels (legs_of (paged 0) two_pilots) ≡ 0 ∷ 1 ∷ []
unfolding places
two_subchannels = refl

-- a paging message from another pilot changes nothing in the sets, nor does a traffic message of
-- any other type
abbrev neighbors_of : ℕ → PagingMessage
neighbors_of pn = pages.Neighbors
    (record { pn = pn; seq = 0; inc = 1; configs = 0 ∷ []; pns = 7 ∷ []; rest = [] })

own_neighbors : (page_noted 511 (neighbors_of 511) two_pilots).sets.neighbors ≡ 7 ∷ []
own_neighbors = refl

other_neighbors : page_noted 511 (neighbors_of 510) two_pilots ≡ two_pilots
other_neighbors = refl

other_message : body_noted 1 (bodies.Other 5 []) two_pilots ≡ two_pilots
other_message = refl
