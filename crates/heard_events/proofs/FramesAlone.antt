-- A handset receives a traffic channel's frame as defined if only the reference's pilot is active.
use Rattle.heard_events.proofs.Common.{◌≡◌, ℕ, ◌==◌, List, [], ◌∷◌, map, refl, ap, ◌∙◌, pos, get_or, append-nil, Some, eq-eqb, places, Mark}
use Rattle.heard_events.proofs.Common.{Sample, power_bit, decoded, group_sums, new_standing, channel_stream, reference_alone, all_fingers}
use Rattle.heard_events.proofs.Common.{traffic_channel, pilot_finger, soft_frame, raw_at, Stream, frame_softs, power_bits_at, decoded_at}
use Rattle.heard_events.proofs.Common.{replaced_in, stream_of, traffic_stream, Tuning, fingers_of, Traffic}
use Rattle.heard_events.proofs.MarkStays.{pilot_alone}

module _ (t : Tuning) (traffic : Traffic) (m : Mark) where
  -- its fingers are the reference's paths
  fingers_alone : (k : ℕ) → all_fingers t.phase t.deltas (reference_alone traffic m k)
      ≡ fingers_of traffic.row t.phase t.deltas
  fingers_alone k =
      let finger = pilot_finger m (get_or (new_standing m.pilot traffic.row).deltas m.pilot (pos 0))
      (record { pilot = m.pilot; row = traffic.row; subchannel = 0 }) in
      pilot_alone t.phase t.deltas (m.pilot == m.pilot) finger 0 (eq-eqb m.pilot m.pilot refl)
      ∙ append-nil (fingers_of traffic.row t.phase t.deltas)

  stream_alone : (k : ℕ) → stream_of t traffic m (reference_alone traffic m) k
      ≡ channel_stream t (traffic_channel traffic) m
  stream_alone k = ap (traffic_stream traffic m) (fingers_alone k)

  pub decoded_alone : (samples : List Sample) (k : ℕ) → decoded_at t traffic m (reference_alone traffic m) samples k
      ≡ decoded (replaced_in traffic m k) (soft_frame t (traffic_channel traffic) m samples k).descrambled
  unfolding decoded_at
  decoded_alone samples k =
      ap (λ (s : Stream). decoded (replaced_in traffic m k) (frame_softs samples s k)) (stream_alone k)

  pub power_bits_alone : (samples : List Sample) (k : ℕ) →
      power_bits_at t traffic m (reference_alone traffic m) samples k
      ≡ map
      (power_bit (group_sums (replaced_in traffic m k)
      (raw_at t (traffic_channel traffic) m samples k) ∷ [])) (places 16)
  unfolding power_bits_at places
  power_bits_alone samples k = rw (fingers_alone k) refl

  pub power_alone : (samples : List Sample) (k : ℕ) →
      Some (record {
        replaced = replaced_in traffic m k;
        power_bits = power_bits_at t traffic m (reference_alone traffic m) samples k;
      }) ≡ (soft_frame t (traffic_channel traffic) m samples k).power
  power_alone samples k = rw (power_bits_alone samples k) refl
