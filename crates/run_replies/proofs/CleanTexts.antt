-- The text of a clean link.
use Rattle.run_replies.proofs.Common.{◌≡◌, ◌⊎◌, inl, inr, ℕ, ◌≤◌, List, ◌++◌, length, take, sym, ap, ◌∙◌, subst, All, Option, Some, Ok}
use Rattle.run_replies.proofs.Common.{Sample, IsSampleFile, Header, Width, energy, IsFreeOf, phase_at, CellPlan, named_receivable, KeptTap}
use Rattle.run_replies.proofs.Common.{run_text, events, Event, IsPaging, made_samples, Tuning, IsCellFile, IsCleanLink, cell_energy, told}
use Rattle.run_replies.proofs.Common.{IsNotDirected, IsOnPath, IsTunedToPlan, tuning_to, FollowsSent, sent_events, messages_back, tuned_is}
use Rattle.run_replies.proofs.Common.{Traffic, clean_end, clean_events, file_end_of, file_text, settings_for, tuning_for, AnswersAfter}
use Rattle.run_replies.proofs.Common.{IsFileReply, Reply, Follow, Settings, Status, NoMemory}
use Rattle.run_replies.proofs.BorneFiles.{cell_borne, end_is, path}
use Rattle.run_replies.proofs.Replies.{whole_file}

-- a handset lies on the path of a cell whose file it hears
pub on_path : (width : Width) (script : List ℕ) (plan : CellPlan)
    (span fingers paging : ℕ) (traffic : Option Traffic) (header : Header) (samples : List Sample) →
    IsCellFile width script plan span fingers header samples → length samples ≡ header.count →
    IsOnPath plan (tuning_for (settings_for header fingers paging traffic) (take span samples))
on_path width script plan span fingers paging traffic header samples file counted =
    path fingers paging traffic (cell_borne file counted)

-- on a clean link it is tuned to the cell
tuned : (width : Width) (script : List ℕ) (plan : CellPlan) (span fingers paging : ℕ)
    (traffic : Option Traffic) (header : Header) (samples : List Sample) →
    IsCleanLink width script plan span fingers paging traffic header samples →
    IsFreeOf plan.traffic paging → length samples ≡ header.count → IsPaging paging →
    IsTunedToPlan plan (tuning_for (settings_for header fingers paging traffic) (take span samples))
tuned width script plan span fingers paging traffic header samples clean free counted one = record {
  path = on_path width script plan span fingers paging traffic header samples clean.file counted;
  first_channel = one.0;
  last_channel = one.1;
  free = free;
}

-- and so it is tuned as the definition of a clean link has it
pub tuned_to_cell : (width : Width) (script : List ℕ) (plan : CellPlan) (span fingers paging : ℕ)
    (traffic : Option Traffic) (header : Header) (samples : List Sample) →
    IsCellFile width script plan span fingers header samples → length samples ≡ header.count →
    tuning_for (settings_for header fingers paging traffic) (take span samples)
    ≡ tuning_to plan (cell_energy span plan) paging traffic
tuned_to_cell width script plan span fingers paging traffic header samples file counted =
    let t = tuning_for (settings_for header fingers paging traffic) (take span samples) in
    let phase = phase_at plan plan.link.start in
    let energy_is : t.energy ≡ cell_energy span plan =
    ap (energy (take span samples)) file.found
    ∙ ap (λ (s : List Sample). energy (take span s) phase) file.sent in
    tuned_is plan t (on_path width script plan span fingers paging traffic header samples file counted)
    ∙ ap (λ (e : ℕ). tuning_to plan e paging traffic) energy_is

-- and hears no direction
undirected : (width : Width) (script : List ℕ) (plan : CellPlan) (span fingers paging : ℕ)
    (traffic : Option Traffic) (header : Header) (samples : List Sample) →
    IsCleanLink width script plan span fingers paging traffic header samples → length samples ≡ header.count →
    All IsNotDirected
    (events (tuning_for (settings_for header fingers paging traffic) (take span samples))
    (made_samples plan))
undirected width script plan span fingers paging traffic header samples clean counted =
    let t = tuning_for (settings_for header fingers paging traffic) (take span samples) in
    subst (λ (s : List Sample). All IsNotDirected (events t s)) clean.file.sent
    (subst (λ (k : Tuning). All IsNotDirected (events k samples))
    (sym (tuned_to_cell width script plan span fingers paging traffic header samples clean.file counted))
    clean.undirected)

-- the events of a file: the pilot of the first samples, and what a handset hears in all
abbrev file_events : ℕ → Settings → List Sample → List Event
file_events span settings samples = events (tuning_for settings (take span samples)) samples

-- those of a clean link are the cell's
pub clean_events-are : (width : Width) (script : List ℕ) (plan : CellPlan)
    (span fingers paging : ℕ) (traffic : Option Traffic) (header : Header) (samples : List Sample) →
    IsCleanLink width script plan span fingers paging traffic header samples → IsFreeOf plan.traffic paging →
    FollowsSent plan traffic → length samples ≡ header.count → IsPaging paging →
    file_events span (settings_for header fingers paging traffic) samples ≡ clean_events span plan paging traffic
unfolding clean_events
clean_events-are width script plan span fingers paging traffic header samples clean free follows
    counted one =
    let t = tuning_for (settings_for header fingers paging traffic) (take span samples) in
    let tuned_to : IsTunedToPlan plan t =
    tuned width script plan span fingers paging traffic header samples clean free counted one in
    ap (events t) clean.file.sent
    ∙ messages_back width plan t (named_receivable width script plan clean.file.named) tuned_to follows
    (undirected width script plan span fingers paging traffic header samples clean counted)
    ∙ ap (λ (k : Tuning). sent_events plan k.energy paging traffic)
    (tuned_to_cell width script plan span fingers paging traffic header samples clean.file counted)

-- and how the run ends
pub clean_end-is : (width : Width) (script : List ℕ) (plan : CellPlan)
    (span workers fingers paging : ℕ) (traffic : Option Traffic) (limits : List ℕ) (header : Header)
    (samples : List Sample) → IsCleanLink width script plan span fingers paging traffic header samples →
    length samples ≡ header.count →
    file_end_of (Follow span workers fingers paging traffic limits) header samples ≡ clean_end plan
unfolding file_end_of
clean_end-is width script plan span workers fingers paging traffic limits header samples clean counted =
    end_is fingers paging traffic (cell_borne clean.file counted)

-- so what is written of the file is written of the cell
clean_text-is : (taps : List KeptTap) (width : Width) (script : List ℕ) (plan : CellPlan)
    (span workers fingers paging : ℕ) (traffic : Option Traffic) (limits : List ℕ) (header : Header)
    (samples : List Sample) → IsCleanLink width script plan span fingers paging traffic header
    samples → IsFreeOf plan.traffic paging → FollowsSent plan traffic → length samples ≡ header.count →
    IsPaging paging → file_text taps (Follow span workers fingers paging traffic limits) header samples ≡
    run_text taps (clean_events span plan paging traffic)
unfolding file_text told
clean_text-is taps width script plan span workers fingers paging traffic limits header samples clean free
    follows counted one =
    ap (run_text taps)
    (clean_events-are width script plan span fingers paging traffic header samples clean free follows
    counted one)

clean_reply : (taps : List KeptTap) (width : Width) (script held : List ℕ)
    (plan : CellPlan) (span workers fingers paging : ℕ) (traffic : Option Traffic) (limits : List ℕ)
    (header : Header) (samples : List Sample) (status : Status) (written : Option (List ℕ)) →
    IsCleanLink width script plan span fingers paging traffic header samples → IsFreeOf plan.traffic paging →
    FollowsSent plan traffic → length samples ≡ header.count → IsPaging paging → (status ≡ NoMemory) ⊎
    ((status ≡ file_end_of (Follow span workers fingers paging traffic limits) header samples) ×
    (written ≡ Some (held ++ file_text taps (Follow span workers fingers paging traffic limits) header samples))) →
    (status ≡ NoMemory) ⊎
    ((status ≡ clean_end plan) ×
    (written ≡ Some (held ++ run_text taps (clean_events span plan paging traffic))))
clean_reply taps width script held plan span workers fingers paging traffic limits header samples status
    written clean free follows counted one (inl none) = inl none
clean_reply taps width script held plan span workers fingers paging traffic limits header samples status
    written clean free follows counted one (inr all) =
    inr (
      all.0
          ∙ clean_end-is width script plan span workers fingers paging traffic limits header samples clean
          counted,
      all.1 ∙ ap (λ (t : List ℕ). Some (held ++ t))
          (clean_text-is taps width script plan span workers fingers paging traffic limits header samples
          clean free follows counted one),
    )

-- so a run that answers what is required answers that
pub clean_answer : (taps : List KeptTap) (width : Width) (script bytes held : List ℕ)
    (plan : CellPlan) (span workers fingers paging : ℕ) (traffic : Option Traffic) (limits : List ℕ)
    (header : Header) (samples : List Sample) (status : Status) (written : Option (List ℕ)) →
    IsSampleFile bytes header samples → span ≤ length samples → IsPaging paging →
    IsCleanLink width script plan span fingers paging traffic header
    samples → IsFreeOf plan.traffic paging → FollowsSent plan traffic →
    ((reply : Reply) → IsFileReply taps (Follow span workers fingers paging traffic limits) bytes reply →
    (status ≡ NoMemory) ⊎ AnswersAfter held reply status written) →
    (status ≡ NoMemory) ⊎
    ((status ≡ clean_end plan) ×
    (written ≡ Some (held ++ run_text taps (clean_events span plan paging traffic))))
clean_answer taps width script bytes held plan span workers fingers paging traffic limits header samples
    status written file enough one clean free follows exact =
    clean_reply taps width script held plan span workers fingers paging traffic limits header samples status
    written clean free follows file.counted one
    (exact (Ok (
      file_text taps (Follow span workers fingers paging traffic limits) header samples,
      file_end_of (Follow span workers fingers paging traffic limits) header samples,
    )) (whole_file file enough))
