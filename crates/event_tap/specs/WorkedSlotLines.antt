-- The slots of a file of 1,228,800 samples whose mark lies at sample 688,128 and has time 1007, as
-- the checker computes them.
use Rattle.event_tap.specs.Common.{places, channel_stream, Stream, Tuning, Paging, Mark}
use Rattle.std.specs.Prelude.{◌≡◌, refl, ℕ, List, [], ◌∷◌, filter, ℤ, pos, negsuc, None}
use Rattle.chip_core.specs.declared.check_form.CheckForm.TheVariants.{Plain}
use Rattle.event_tap.specs.SlotLines.{frame_of_slot_end, is_heard, is_slot_within, slot_bound}

tuned : List ℤ → Tuning
tuned deltas = record {
  count = 1228800;
  phase = 64;
  energy = 0;
  deltas = deltas;
  check30 = Plain;
  check16 = Plain;
  paging = 1;
  traffic = None;
}

mark_with : ℕ → Mark
mark_with prat = record { sample = 688128; time = 1007; state = 1; pilot = 511; prat = prat }

stream : List ℤ → Stream
stream deltas = channel_stream (tuned deltas) (Paging 1) (mark_with 0)

heard : ℕ → ℕ → ℕ → List ℕ
heard key prat n =
    filter (is_heard key 0 1228800 (stream (pos 0 ∷ [])) (mark_with prat) n) (places (slot_bound n))

-- five whole slots lie after the mark, those of times 1007 to 1011
within : filter (is_slot_within 1228800 (stream (pos 0 ∷ [])) 1228800) (places (slot_bound 1228800))
    ≡ 0 ∷ 1 ∷ 2 ∷ 3 ∷ 4 ∷ []
unfolding tuned mark_with stream places
within = refl

-- key 0 monitors only time 1008,
one_heard : heard 0 0 1228800 ≡ 1 ∷ []
unfolding tuned mark_with stream heard places
one_heard = refl

-- which is heard at the end of its last frame,
ended : frame_of_slot_end (stream (pos 0 ∷ [])) 1 3 ≡ 884736
unfolding tuned mark_with stream
ended = refl

-- and not a sample before;
not_yet : heard 0 0 884735 ≡ []
unfolding tuned mark_with stream heard places
not_yet = refl

just_then : heard 0 0 884736 ≡ 1 ∷ []
unfolding tuned mark_with stream heard places
just_then = refl

-- 3 samples later if a path arrives 3 chips later
ended_late : frame_of_slot_end (stream (pos 0 ∷ negsuc 2 ∷ pos 2 ∷ [])) 1 3 ≡ 884739
unfolding tuned mark_with stream
ended_late = refl

-- key 1 monitors the times equal to 12 modulo 16, and none of these is there
none_heard : heard 1 0 1228800 ≡ []
unfolding tuned mark_with stream heard places
none_heard = refl

-- no paging channel has data rate 2
no_rate : heard 0 2 1228800 ≡ []
unfolding tuned mark_with stream heard places
no_rate = refl
