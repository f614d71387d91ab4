-- What is written of a clean link is what its cell sends, channel by channel.
use Rattle.run_replies.proofs.Common.{◌≡◌, ◌⊎◌, inl, inr, ℕ, ◌≤◌, List, ◌++◌, length, take, refl, ap, ◌∙◌, subst, All, Option, Some, Ok}
use Rattle.run_replies.proofs.Common.{Sample, Width, IsSampleFile, Header, made_samples, CellPlan, KeptTap, run_text, events, Tuning, told}
use Rattle.run_replies.proofs.Common.{Event, Traffic, IsPaging, tuning_to, IsNotDirected, IsOnPath, IsCleanLink, cell_energy, HearsEach}
use Rattle.run_replies.proofs.Common.{each_channel, WritesEach, clean_end, file_end_of, file_text, settings_for, tuning_for, AnswersAfter}
use Rattle.run_replies.proofs.Common.{IsFileReply, Reply, Follow, Status, NoMemory, named_receivable}
use Rattle.run_replies.proofs.CleanTexts.{clean_end-is, on_path, tuned_to_cell}
use Rattle.run_replies.proofs.Replies.{whole_file}

module _ (width : Width) (script : List ℕ) (plan : CellPlan)
    (span workers fingers paging : ℕ) (traffic : Option Traffic) (limits : List ℕ) (header : Header)
    (samples : List Sample)
    (clean : IsCleanLink width script plan span fingers paging traffic
    header samples)
    (counted : length samples ≡ header.count) (one : IsPaging paging) where
  abbrev first : List Sample
  first = take span samples

  abbrev tuning : Tuning
  tuning = tuning_for (settings_for header fingers paging traffic) first

  path : IsOnPath plan tuning
  path = on_path width script plan span fingers paging traffic header samples clean.file counted

  abbrev to_cell : Tuning
  to_cell = tuning_to plan (cell_energy span plan) paging traffic

  tuned_so : tuning ≡ to_cell
  tuned_so = tuned_to_cell width script plan span fingers paging traffic header samples clean.file counted

  abbrev heard : List Event
  heard = events to_cell (made_samples plan)

  -- the handset gives these
  heard_is : events tuning samples ≡ heard
  heard_is =
      ap (events tuning) clean.file.sent
      ∙ ap (λ (t : Tuning). events t (made_samples plan)) tuned_so

  each_text : (taps : List KeptTap) → file_text taps (Follow span workers fingers paging traffic limits) header samples
      ≡ run_text taps heard
  unfolding file_text told
  each_text taps = ap (run_text taps) heard_is

  -- and of each channel that is what is sent
  each_heard : HearsEach plan paging traffic heard
  each_heard =
      each_channel width plan to_cell (named_receivable width script plan clean.file.named)
      (subst (IsOnPath plan) tuned_so path) one.0 one.1
      (subst (λ (s : List Sample). All IsNotDirected (events to_cell s)) clean.file.sent
      clean.undirected)

  -- so a run that answers what is required answers that
  pub each_answer : (taps : List KeptTap) (bytes held : List ℕ) (status : Status)
      (written : Option (List ℕ)) → IsSampleFile bytes header samples → span ≤ length samples →
      ((reply : Reply) →
      IsFileReply taps (Follow span workers fingers paging traffic limits) bytes reply →
      (status ≡ NoMemory) ⊎ AnswersAfter held reply status written) →
      (status ≡ NoMemory) ⊎ ((status ≡ clean_end plan) × WritesEach taps span plan paging traffic held written)
  each_answer taps bytes held status written file enough exact =
      let text = file_text taps (Follow span workers fingers paging traffic limits) header samples in
      let end = file_end_of (Follow span workers fingers paging traffic limits) header samples in
      elim (exact (Ok (text, end)) (whole_file file enough)) [
        | inl none ↦ inl none
        | inr all ↦
            inr (
              all.0 ∙ clean_end-is width script plan span workers fingers paging traffic limits header
                  samples clean counted,
              record {
                heard = heard;
                text = all.1 ∙ ap (λ (t : List ℕ). Some (held ++ t)) (each_text taps);
                all = refl;
                each = each_heard;
              },
            )
      ]
