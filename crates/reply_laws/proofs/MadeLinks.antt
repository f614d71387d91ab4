-- The file that is made of a script can be read and is a clean link where the search finds the
-- cell's path; the required output if the cell's pilot is louder than all of its other channels
-- together.
use Rattle.reply_laws.proofs.Common.{clean_sent, clean_signs, ◌≡◌, ℕ, ◌+◌, ◌-◌, ◌*◌, ◌<◌, ◌≤◌, List, ◌++◌, get_or, take, All, refl, sym, ap}
use Rattle.reply_laws.proofs.Common.{◌∙◌, subst, arith, unsigned_abs, Option, Ok, flat_map, All-from_get_or, Sample, HasBits, IsSampleFile}
use Rattle.reply_laws.proofs.Common.{IsLawfulHeader, header_spelling, most_samples, sample_spelling, width_of, Width, Sixteen, Eight, Job}
use Rattle.reply_laws.proofs.Common.{best_phase, CellPlan, IsLawfulPlan, loudness, most_part, header_of, phase_at, version_of, named_plan}
use Rattle.reply_laws.proofs.Common.{no_sample, events, Traffic, IsOnPath, tuning_to, cell_energy, no_event_directed, made_samples, made_at}
use Rattle.reply_laws.proofs.Common.{made_file, named_receivable, length-made, length, kept_by, run_text, clean_end, settings_for, energy}
use Rattle.reply_laws.proofs.Common.{tuning_for, event_line, Status, TrafficPlan, SendsSetOne, SendsSetTwo, IsLineOfSetOne, IsLineOfSetTwo}
use Rattle.reply_laws.proofs.Common.{RepliesComeBack, found_alone, Event, Pilot, cell_borne, end_is, one_reply, IsCellFile, Done, list_job}
use Rattle.reply_laws.proofs.Common.{rate2_job, HasLouderPilot, IsSmall, sample_small, part_fits, clean_events-are, plan_named, Header}
use Rattle.reply_laws.proofs.Required.{find_writes, follow_writes}
use Rattle.reply_laws.proofs.NoisyReplies.{list_replies, rate2_replies, idle_replies}
use Rattle.command_line.specs.declared.job.Job.TheVariants as jobs
use Rattle.reply_laws.specs.MadeLinks as laws

-- ---- the header

-- its version is that of the width
made_width : (width : Width) (plan : CellPlan) → width_of (header_of width plan) ≡ width
made_width Sixteen plan = refl
made_width Eight plan = refl

is_version_of : (width : Width) → (1 ≤ version_of width) × (version_of width ≤ 2)
is_version_of Sixteen = (omega arith, omega arith)
is_version_of Eight = (omega arith, omega arith)

made_header : (width : Width) (plan : CellPlan) → plan.link.samples ≤ most_samples width →
    IsLawfulHeader (header_of width plan)
made_header width plan few = record {
  version_least = (is_version_of width).0;
  version_most = (is_version_of width).1;
  count_most =
      subst (λ (w : Width). plan.link.samples ≤ most_samples w) (sym (made_width width plan)) few;
}

-- ---- the samples

-- each sample of a lawful plan fits the width, since both of its parts are as small as the plan's loudness
made_fits : (width : Width) (plan : CellPlan) (k : ℕ) → loudness plan ≤ most_part width →
    k < plan.link.samples → HasBits width (get_or (made_samples plan) k no_sample)
made_fits width plan k loud below =
    let s = get_or (made_samples plan) k no_sample in
    let small = subst (IsSmall (loudness plan)) (sym (made_at plan k below)) (sample_small plan k) in
    let i : unsigned_abs s.i ≤ loudness plan = small.i in
    let q : unsigned_abs s.q ≤ loudness plan = small.q in
    record {
      in_phase = part_fits width s.i (omega (arith, i, loud));
      quadrature = part_fits width s.q (omega (arith, q, loud));
    }

all_made_fit : (width : Width) (plan : CellPlan) → loudness plan ≤ most_part width →
    All (HasBits width) (made_samples plan)
all_made_fit width plan loud =
    All-from_get_or (HasBits width) (made_samples plan) no_sample
    (λ k below. made_fits width plan k loud (omega (arith, below, length-made plan)))

-- ---- the file

made_spelled : (width : Width) (plan : CellPlan) → made_file width plan ≡
    header_spelling (header_of width plan) ++ flat_map (sample_spelling width) (made_samples plan)
unfolding made_file
made_spelled width plan = refl

-- the file of a lawful plan
pub lawful_readable : (width : Width) (plan : CellPlan) → IsLawfulPlan width plan →
    IsSampleFile (made_file width plan) (header_of width plan) (made_samples plan)
lawful_readable width plan lawful =
    let read = sym (made_width width plan) in
    record {
      lawful = made_header width plan lawful.samples;
      counted = length-made plan;
      in_range =
          subst (λ (w : Width). All (HasBits w) (made_samples plan)) read
          (all_made_fit width plan lawful.loud);
      spelled =
          subst (λ (w : Width). made_file width plan ≡
          header_spelling (header_of width plan) ++
          flat_map (sample_spelling w) (made_samples plan)) read (made_spelled width plan);
    }

-- ---- the laws

-- the file that is made of a script is a sample file of the cell's samples
pub made_readable : laws.IsReadableWhenMade
made_readable width script plan named = lawful_readable width plan (named_plan width script plan named).0

-- samples and flags of a cell whose path the search finds are a file of the cell, with one finger
cell_file : {width : Width} {script : List ℕ} {plan : CellPlan} {span : ℕ} {header : Header}
    {samples : List Sample} → plan_named width script ≡ Ok plan →
    best_phase (take span (made_samples plan)) ≡ phase_at plan plan.link.start →
    samples ≡ made_samples plan → header.check30 ≡ plan.cell.check30 →
    header.check16 ≡ plan.cell.check16 → IsCellFile width script plan span 1 header samples
cell_file {span = span} named found sent long short = record {
  named = named;
  sent = sent;
  checks_of_30 = long;
  checks_of_16 = short;
  found = ap (λ (xs : List Sample). best_phase (take span xs)) sent ∙ found;
  alone = refl;
}

-- and a clean link, where the search finds the cell's path, there is one finger, and no handoff is
-- directed
pub made_clean : laws.IsCleanWhenMade
made_clean width script plan span paging traffic named found undirected =
    record { file = cell_file named found refl refl refl; undirected = undirected }

-- a handset on it lies on the cell's path
made_tuned : (plan : CellPlan) (energy paging : ℕ) (traffic : Option Traffic) →
    IsOnPath plan (tuning_to plan energy paging traffic)
made_tuned plan energy paging traffic = record {
  count = refl;
  checks_of_30 = refl;
  checks_of_16 = refl;
  phase = refl;
  alone = refl;
}

-- so no handoff is directed where none of the messages that are sent does that
pub made_clean_sent : laws.IsCleanWhenSent
made_clean_sent width script plan span paging traffic named found follows none =
    let receivable = named_receivable width script plan named in
    made_clean width script plan span paging traffic named found
    (no_event_directed width plan (made_samples plan) (tuning_to plan (cell_energy span plan) paging traffic)
    (clean_signs width plan receivable) (made_tuned plan (cell_energy span plan) paging traffic) follows
    (λ p channel chosen has assigned superframes k told.
    clean_sent receivable p has (4 * superframes + k)) none)

-- ---- a cell with a louder pilot

module _ {width : Width} {script : List ℕ} {plan : CellPlan} {span : ℕ}
    (loud : HasLouderPilot width script plan span) where
  -- the search finds the path
  found : best_phase (take span (made_samples plan)) ≡ phase_at plan plan.link.start
  found = found_alone width plan span (named_receivable width script plan loud.named) loud.louder
      loud.least loud.enough

  pub readable : IsSampleFile (made_file width plan) (header_of width plan) (made_samples plan)
  readable = made_readable width script plan loud.named

  pub enough : span ≤ length (made_samples plan)
  enough = rw (length-made plan) loud.enough

pub cell_files : laws.LouderPilotsMakeCellFiles
cell_files width script plan span header samples loud sent long short =
    cell_file loud.named (found loud) sent long short

-- what `make` writes of the script
made_cell : {width : Width} {script : List ℕ} {plan : CellPlan} {span : ℕ} → HasLouderPilot width script plan span →
    IsCellFile width script plan span 1 (header_of width plan) (made_samples plan)
made_cell {width} {script} {plan} {span} loud =
    cell_files width script plan span (header_of width plan) (made_samples plan) loud refl refl refl

pub clean_links : laws.LouderPilotsMakeCleanLinks
clean_links width script plan span paging traffic loud follows none =
    made_clean_sent width script plan span paging traffic loud.named (found loud) follows none

pub louder_find : laws.FindsLouderPilots
louder_find workers forms script width plan span reply loud required =
    one_reply forms (jobs.Find span workers) (made_file width plan) reply _ required
    (find_writes forms span workers (made_file width plan) (header_of width plan) (made_samples plan)
    (readable loud) (enough loud))
    ∙ ap (λ (phase : ℕ). Ok (event_line (Pilot phase (energy (take span (made_samples plan)) phase)), Done))
    (found loud)

-- The one reply that is required is the text of the handset's events, and of a clean link these are what
-- the cell sends: the handset is tuned to the cell, since the search finds its path.
pub louder_follow : laws.LouderFollowRepliesComeBack
louder_follow workers paging traffic limits one forms script width plan span reply loud required free follows none =
    let samples = made_samples plan in
    let header = header_of width plan in
    let file = readable loud in
    let clean = clean_links width script plan span paging traffic loud follows none in
    let t = tuning_for (settings_for header 1 paging traffic) (take span samples) in
    one_reply forms (jobs.Follow span workers 1 paging traffic limits) (made_file width plan) reply _ required
    (follow_writes forms span workers 1 paging traffic limits (made_file width plan) header samples file (enough loud))
    ∙ ap (λ (end : Status). Ok (run_text (kept_by limits forms) (events t samples), end))
    (end_is 1 paging traffic (cell_borne clean.file file.counted))
    ∙ ap (λ (es : List Event). Ok (run_text (kept_by limits forms) es, clean_end plan))
    (clean_events-are width script plan span 1 paging traffic header samples clean free follows file.counted
    one)

-- from replies of any file of a cell to those of the file that `make` writes
of_made : (job : ℕ → ℕ → ℕ → Traffic → Job) (Sends : TrafficPlan → Type 0)
    (Is : CellPlan → TrafficPlan → ℕ → List ℕ → Type 0) → RepliesComeBack job Sends Is →
    laws.LouderRepliesComeBack (λ span workers traffic. job span workers 1 traffic) Sends Is
of_made job Sends Is back workers traffic forms script width plan span reply loud required p has assigned
    sends =
    back forms script (made_file width plan) width plan p span workers 1 traffic (header_of width plan)
    (made_samples plan) reply (record {
      file = readable loud;
      enough = enough loud;
      cell = made_cell loud;
      sent = has;
      assigned = assigned;
    }) sends required

pub louder_rate2 : laws.LouderRate2RepliesComeBack
louder_rate2 = of_made rate2_job SendsSetTwo IsLineOfSetTwo rate2_replies

pub louder_list : laws.LouderListRepliesComeBack
louder_list k least = of_made (list_job k) SendsSetOne IsLineOfSetOne (list_replies k least)

pub louder_idle : laws.LouderIdleRepliesComeBack
louder_idle workers key cycle p forms script width plan span reply loud required has =
    idle_replies forms script (made_file width plan) width plan p span workers 1 key cycle
    (header_of width plan) (made_samples plan) reply (readable loud) (enough loud) (made_cell loud) has required
