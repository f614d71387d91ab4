-- Lemmas on the lines of traffic messages: the records of a handoff direction.
use Rattle.event_tap.proofs.Common.{◌≡◌, ◌≢◌, true, ℕ, zero, suc, ◌<◌, ◌≤◌, ◌^◌, refl, ap, [], ◌∷◌, length, get_or, arith, are_short}
use Rattle.event_tap.proofs.Common.{has_line, FillColumns}
use Rattle.traffic_message.specs.Messages.{IsTrafficMessage, Message, bits_of}
use Rattle.traffic_message.specs.Handoff.{IsHandoffDirection}
use Rattle.traffic_message.specs.Layouts.{form_in, traffic_names_of, traffic_shape_of}
use Rattle.traffic_message.specs.declared.body.TrafficBody.{TrafficBody}
use Rattle.traffic_message.specs.declared.body.TrafficBody.TheVariants.{Handoff, Neighbors, Other, System}
use Rattle.traffic_message.specs.declared.fields.DirectionFields.{DirectionFields}
use Rattle.traffic_message.proofs.Bodies.{length-message}
use Rattle.traffic_message.proofs.ByLayout.{combs_paired, record_fits, rows_paired}
use Rattle.traffic_message.proofs.Directions.{records_room}
use Rattle.event_tap.specs.TrafficLines.{HasFewRecords}

-- they are the records of a list
pub listed_records : (m : DirectionFields) → IsHandoffDirection m →
    FillColumns (9 ∷ 8 ∷ 1 ∷ []) (m.pns ∷ m.rows ∷ m.combs ∷ [])
listed_records m is =
    record {
      some = omega arith;
      few = omega arith;
      even = rw (rows_paired m is, combs_paired m is) refl;
      fit = fit_at;
      short = refl;
    } where
      fit_at : (i j : ℕ) → i < length m.pns → j < 3 →
          get_or (get_or (m.pns ∷ m.rows ∷ m.combs ∷ []) j []) i 0 < 2 ^ get_or (9 ∷ 8 ∷ 1 ∷ []) j 0
      fit_at i zero h within = (record_fits m i is h).0
      fit_at i (suc zero) h within = (record_fits m i is h).2
      fit_at i (suc (suc zero)) h within = (record_fits m i is h).1
      fit_at i (suc (suc (suc j))) h within = absurd (omega (arith, within))

-- a message has at most 62 of them
pub few_records_in : (m : Message) (b : TrafficBody) → IsTrafficMessage m → m.body ≡ b → HasFewRecords b
few_records_in m (Handoff d) is body =
    omega (arith, is.fills.whole, is.fills.most, length-message m, ap (λ b. length (bits_of b)) body, records_room d)
few_records_in m (System d) is body = tt
few_records_in m (Neighbors d) is body = tt
few_records_in m (Other kind bits) is body = tt

-- any other body is written by its layout
pub traffic_lines : (b : TrafficBody) → ((m : DirectionFields) → b ≢ Handoff m) →
    has_line (traffic_names_of (form_in b)) (traffic_shape_of (form_in b)) ≡ true
unfolding has_line are_short
traffic_lines (Handoff m) none = absurd (none m refl)
traffic_lines (System m) none = refl
traffic_lines (Neighbors m) none = refl
traffic_lines (Other kind bits) none = refl
