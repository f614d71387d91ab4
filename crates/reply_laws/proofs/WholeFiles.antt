-- Whole files meet every premise of the laws.
use Rattle.reply_laws.proofs.Common.{◌≡◌, ◌≤◌, ℕ, List, [], ◌∷◌, ◌-◌, ◌≢◌, length, map, take, refl, sym, ap, ◌∙◌, subst, arith, Some, None}
use Rattle.reply_laws.proofs.Common.{Ok, All, All-nil, IsReceivable, Sample, Sixteen, IsSampleFile, IsNoisyFile, Status, TrafficPlan, mark}
use Rattle.reply_laws.proofs.Common.{clean_end, end_when, is_some, events, kept_by, run_text, settings_for, tuning_for, header_of, places}
use Rattle.reply_laws.proofs.Common.{length-made, made_samples, named_receivable, plan_named, digits_from, decode_pairs, whole_sendings}
use Rattle.reply_laws.proofs.Common.{pages_told, sync_told, meets_premises, sending_event, sync_sent, some_message, some_sync, spelling}
use Rattle.reply_laws.proofs.Common.{phase_at, sent_events, energy, cell, cell_beside, file, noisy_paging_plan, sync_with, less_borne, Job}
use Rattle.reply_laws.proofs.Common.{pilots_bear, plan_files, IsReply, Reply, Done, HasLouderPilot, Bears, IsMargin, IsHeardThrough, codes}
use Rattle.reply_laws.proofs.Common.{All-cons, All-head, All-tail}
use Rattle.clean_link.proofs.Common.{IsNotDirected, IsFreeOf, heard_after, sending_ends, capsule, check_bits, sync_body, sync_capsule}
use Rattle.clean_link.proofs.Common.{signaling_sent}
use Rattle.cell_script.proofs.Common.{admits, binary, bits_in_text, bits_left, cell_in, draft_after, fill, freq_in, hex_bits, hex_from}
use Rattle.cell_script.proofs.Common.{is_body, is_line, length_before, lines, link_in, number_up_to, numbers_in, page_stage, paging_in}
use Rattle.cell_script.proofs.Common.{past, past_freq, past_numbers, pilot_in, script_field, signed_in, state_in, stated, stated_page_in}
use Rattle.cell_script.proofs.Common.{stated_plan, statement_in, sync_after, sync_in, with_line, with_next}
use Rattle.reply_laws.proofs.MadeLinks.{clean_links, enough, louder_follow, readable, lawful_readable}
use Rattle.reply_laws.proofs.NoisyReplies.{noisy_whole, comes_back}
use Rattle.reply_laws.proofs.Required.{follow_writes}
use Rattle.reply_laws.specs.WholeFiles.{ComesBackThroughAnyNoise, loud_cell, script_with_pilot, second_messages, second_paging, second_with}
use Rattle.reply_laws.specs.WholeFiles.{MeetsEachPremise, MeetsEachNoisePremise, margin_bytes, second_cell, second_file, second_header}
use Rattle.reply_laws.specs.WholeFiles.{second_script, second_text}
use Rattle.command_line.specs.declared.job.Job.TheVariants as jobs

-- ---- without noise

-- both scripts
scripts_named : (plan_named Sixteen second_script ≡ Ok second_cell)
    × (plan_named Sixteen (script_with_pilot (codes "2000")) ≡ Ok loud_cell)
unfolding script_with_pilot plan_named stated_plan stated draft_after lines is_line with_line with_next
    statement_in cell_in link_in pilot_in sync_in sync_after freq_in past_freq paging_in
    stated_page_in numbers_in past_numbers script_field past length_before number_up_to digits_from
    signed_in state_in hex_from bits_in_text hex_bits decode_pairs binary is_body admits page_stage
    bits_left fill
scripts_named = (refl, refl)

louder : HasLouderPilot Sixteen second_script second_cell 2048
louder = record { named = scripts_named.0; louder = omega arith; least = omega arith; enough = omega arith }

receivable : IsReceivable Sixteen second_cell
receivable = named_receivable Sixteen second_script second_cell scripts_named.0

loud_receivable : IsReceivable Sixteen loud_cell
loud_receivable = named_receivable Sixteen (script_with_pilot (codes "2000")) loud_cell scripts_named.1

none_directed : (gain : ℕ) → All IsNotDirected (signaling_sent (second_with gain) None)
unfolding signaling_sent
none_directed gain = All-nil IsNotDirected

abbrev ends_at : ℕ → ℕ → ℕ
ends_at gain sending = heard_after 32768 1228800 (sending_ends (second_with gain) (some_message 0) sending - 0)

whole_are : (gain : ℕ) → (whole_sendings (second_with gain) (some_message 0) ≡ 0 ∷ 1 ∷ 2 ∷ 3 ∷ [])
    × (ends_at gain 0 ≡ 294848) × (ends_at gain 1 ≡ 589760) × (ends_at gain 2 ≡ 884672) × (ends_at gain 3 ≡ 1179584)
unfolding sync_capsule sync_body spelling capsule check_bits places binary
whole_are gain = (refl, refl, refl, refl, refl)

second_sync : (gain : ℕ) → sync_sent (second_with gain) ≡ second_messages
unfolding sync_sent
second_sync gain =
    let are = whole_are gain in
    ap (map (sending_event (second_with gain) (some_message 0))) are.0
    ∙ rw (are.1, are.2, are.3, are.4) refl

second_ends_well : (gain : ℕ) → clean_end (second_with gain) ≡ Done
second_ends_well gain = rw (second_sync gain) refl

no_traffic : IsFreeOf second_cell.traffic 1
no_traffic = All-nil (λ (t : TrafficPlan). t.row ≢ 1)

module _ (forms limits : List ℕ) (workers : ℕ) where
  abbrev job : Job
  job = jobs.Follow 2048 workers 1 1 None limits

  abbrev whole : Reply
  whole = Ok (second_text forms limits, Done)

  -- the one reply that is required
  only : (reply : Reply) → IsReply forms job second_file reply → reply ≡ whole
  only reply required =
      louder_follow workers 1 None limits (omega arith, omega arith) forms second_script Sixteen
      second_cell 2048 reply louder required no_traffic tt (none_directed 100)
      ∙ ap (λ (end : Status). Ok (second_text forms limits, end)) (second_ends_well 100)

  required : IsReply forms job second_file whole
  required =
      let xs = made_samples second_cell in
      let t = tuning_for (settings_for second_header 1 1 None) (take 2048 xs) in
      let found : Reply = Ok (
        run_text (kept_by limits forms) (events t xs),
        end_when (is_some (mark t xs (length xs))),
      ) in
      let is : IsReply forms job second_file found =
      follow_writes forms 2048 workers 1 1 None limits second_file second_header xs (readable louder) (enough louder) in
      subst (IsReply forms job second_file) (only found is) is

pub meets_each : MeetsEachPremise
meets_each = record {
  louder = louder;
  file = readable louder;
  clean = clean_links Sixteen second_script second_cell 2048 1 None louder tt (none_directed 100);
  free = no_traffic;
  follows = tt;
  noisy = record {
    file = readable louder;
    enough = enough louder;
    near = plan_files Sixteen second_cell 2048 second_header
        receivable louder.louder louder.least louder.enough refl refl;
    sync = some_sync 0;
    sends = refl;
    bears = omega arith;
  };
  through = record {
    receivable = receivable;
    enough = louder.enough;
    found = pilots_bear 0 10 3 Sixteen second_cell 2048 receivable refl (omega arith) (omega arith)
        louder.enough;
    sync = some_sync 0;
    sends = refl;
    bears = omega arith;
  };
  sync = second_sync 100;
  required = λ forms limits workers reply. (
    only forms limits workers reply,
    λ same.
        subst (IsReply forms (job forms limits workers) second_file) (sym same)
        (required forms limits workers),
  );
  written = λ forms limits held workers status new answers.
      answers (whole forms limits workers) (required forms limits workers);
}

-- ---- with noise

noisy_file : (span : ℕ) → 16 ≤ span → span ≤ 737280 →
    IsNoisyFile 89 margin_bytes Sixteen cell span 1 (header_of Sixteen cell) file
noisy_file span least long = record {
  file =
      subst (λ (xs : List Sample). IsSampleFile margin_bytes (header_of Sixteen cell) xs) (sym meets_premises.sent)
      (lawful_readable Sixteen (cell_beside (Some (sync_with 1))) meets_premises.sender.lawful);
  enough =
      rw (
        ap (λ (xs : List Sample). length xs) meets_premises.sent,
        length-made (cell_beside (Some (sync_with 1))),
      ) long;
  near = meets_premises.near span least long;
  sync = sync_with 90;
  sends = refl;
  bears = meets_premises.hears.bears;
}

margin_told : clean_end cell ≡ Done
margin_told = rw (sync_told) refl

pub meets_noise : MeetsEachNoisePremise
meets_noise = record {
  noisy = noisy_file;
  sync = sync_told;
  pages = pages_told;
  required = λ forms limits workers span reply least long required.
      noisy_whole forms limits margin_bytes 89 Sixteen cell noisy_paging_plan span workers 1
      (header_of Sixteen cell) file reply (noisy_file span least long) (0, omega arith, refl)
      (less_borne cell 90 180 89 89 meets_premises.hears.bears (omega arith) (omega arith)) required
      ∙ ap (λ (end : Status). Ok (
        run_text (kept_by limits forms)
            (sent_events cell (energy (take span file) (phase_at cell 0)) 1 None),
        end,
      )) margin_told;
}

-- ---- with any noise up to 89

loud_margin : IsMargin loud_cell (60 ∷ 30 ∷ []) 89
loud_margin = (
  All-cons (λ (g : ℕ). Bears loud_cell g 89) 60 (30 ∷ []) (omega arith)
      (All-cons (λ (g : ℕ). Bears loud_cell g 89) 30 [] (omega arith)
      (All-nil (λ (g : ℕ). Bears loud_cell g 89))),
  λ all.
      let other = All-tail (λ (g : ℕ). Bears loud_cell g 90) 60 (30 ∷ []) all in
      let more = All-head (λ (g : ℕ). Bears loud_cell g 90) 30 [] other in
      absurd (omega (arith, more.above.above)),
)

loud_through : IsHeardThrough 89 Sixteen loud_cell 2048
loud_through = record {
  receivable = loud_receivable;
  enough = omega arith;
  found = pilots_bear 89 1910 3 Sixteen loud_cell 2048 loud_receivable refl (omega arith) (omega arith)
      (omega arith);
  sync = some_sync 0;
  sends = refl;
  bears = omega arith;
}

pub loud_comes_back : ComesBackThroughAnyNoise
loud_comes_back = record {
  named = scripts_named.1;
  margin = loud_margin;
  through = loud_through;
  back = comes_back 89 Sixteen loud_cell 2048 loud_through;
  sync = second_sync 2000;
  whole = λ workers limits forms bytes header samples reply file required.
      (comes_back 89 Sixteen loud_cell 2048 loud_through).whole workers limits second_paging
      (0, omega arith, refl) (omega arith) forms bytes header samples reply file required
      ∙ ap (λ (end : Status). Ok (
        run_text (kept_by limits forms)
            (sent_events loud_cell (energy (take 2048 samples) (phase_at loud_cell 0)) 1 None),
        end,
      )) (second_ends_well 2000);
}
