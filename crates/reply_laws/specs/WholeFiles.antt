-- Files that meet every premise of the laws: the noiseless file of a script, one with noise as
-- large as its margin, and all files of a cell with noise up to its margin.
use Rattle.std.specs.Prelude.{◌≡◌, ◌≤◌, ◌↔◌, ◌⊎◌, ◌++◌, ◌/◌, ℕ, List, [], ◌∷◌, codes, false}
use Rattle.std.specs.Prelude.{replicate, take, None, Option, Some, Ok}
use Rattle.reply_laws.specs.Common.{IsSampleFile, Header, IsFreeOf, made_samples, header_of}
use Rattle.reply_laws.specs.Common.{phase_at, CellPlan, cell, PagingPlan, plan_named, sync_sent}
use Rattle.reply_laws.specs.Common.{cell_beside, file, last_page, sync_event, sync_with}
use Rattle.reply_laws.specs.Common.{FollowsSent, paging_sent, sent_events, IsMargin, cell_with}
use Rattle.reply_laws.specs.Common.{kept_by, run_text, Event, IsCleanLink, clean_events, made_file}
use Rattle.reply_laws.specs.Common.{AnswersAfter, IsReply, Reply, Status, Done, NoMemory, energy}
use Rattle.clean_link.specs.Common.{binary, Plain, Sixteen, Sync, message_of, some_message}
use Rattle.clean_link.specs.Common.{some_sync, sync_capsule}
use Rattle.reply_laws.specs.HeardThrough.{ComesBackThrough, HoldsOfNearReplies}
use Rattle.reply_laws.specs.MadeLinks.{HasLouderPilot}
use Rattle.reply_laws.specs.NoisyReplies.{IsHeardThrough, IsNoisyFile}
use Rattle.command_line.specs.declared.job.Job.TheVariants as jobs

-- ---- without noise

-- the script `examples/second_of_paging.script`, with the given number as the pilot's gain
unfoldable pub script_with_pilot : List ℕ → List ℕ
script_with_pilot gain =
    codes "cell pn=511 time=1000 lc=20000000000 checks=0" ++ 10
    ∷ codes "link re=0 im=-3 start=0 samples=1228800" ++ 10
    ∷ codes "pilot gain=" ++ gain ++ 10
    ∷ codes "sync gain=30 prev=3 min=1 sid=1 nid=2 lp=13 ltm=0 daylt=0 prat=0 rest=3:00" ++ 10
    ∷ codes "paging channel=1 gain=60" ++ 10
    ∷ codes "page half 34:04ff8046c0" ++ 10 ∷ []

-- the script as that file has it
abbrev pub second_script : List ℕ
second_script = script_with_pilot (codes "100")

-- its paging channel; the page is of type 4 and has 26 bits after the type
abbrev pub second_paging : PagingPlan
second_paging = record {
  number = 1;
  gain = 60;
  pages = record { follows = false; body = binary 34 (0x04ff8046c0 / 64) } ∷ [];
}

-- the cell that the script names, with the given pilot gain
abbrev pub second_with : ℕ → CellPlan
second_with gain = record (cell_with 0 1228800 Plain (Some (some_sync 0)) (second_paging ∷ []) []) {
  pilot = record { gain = gain };
}

abbrev pub second_cell : CellPlan
second_cell = second_with 100

-- the header and the bytes of the file that `make` writes for it
abbrev pub second_header : Header
second_header = header_of Sixteen second_cell

abbrev pub second_file : List ℕ
second_file = made_file Sixteen second_cell

-- the event of transmission `sending`, which is decoded at `at` samples
abbrev pub second_event : ℕ → ℕ → Event
second_event at sending =
    let told = message_of second_cell.cell (some_message 0) sending in
    Sync at (sync_capsule Plain told) told

-- the events of all whole transmissions
abbrev pub second_messages : List Event
second_messages =
    second_event 294848 0 ∷ second_event 589760 1 ∷ second_event 884672 2 ∷ second_event 1179584 3
    ∷ []

-- the text that taps of these forms and limits make of all that the cell sends
abbrev pub second_text : List ℕ → List ℕ → List ℕ
second_text forms limits = run_text (kept_by limits forms) (clean_events 2048 second_cell 1 None)

pub record MeetsEachPremise : Type 0 where
  -- The script names the cell. Its pilot is louder than both of its other channels together, so the
  -- search finds its path in the first 2,048 samples. The file is a clean link for one finger, for
  -- paging channel 1 and for no traffic channel: the default options of `follow`.
  pub louder : HasLouderPilot Sixteen second_script second_cell 2048
  pub file : IsSampleFile second_file second_header (made_samples second_cell)
  pub clean : IsCleanLink Sixteen second_script second_cell 2048 1 1 None second_header
      (made_samples second_cell)
  pub free : IsFreeOf second_cell.traffic 1
  pub follows : FollowsSent second_cell None
  -- It is also a file with noise of size 0, and its cell is heard through noise of size 0.
  pub noisy : IsNoisyFile 0 second_file Sixteen second_cell 2048 1 second_header
      (made_samples second_cell)
  pub through : IsHeardThrough 0 Sixteen second_cell 2048
  -- Four transmissions of the sync channel are whole, and contain the time.
  pub sync : sync_sent second_cell ≡ second_messages
  -- The one reply that `follow` may write is the text of all that the cell sends, and the run ends
  -- well.
  pub required : (forms limits : List ℕ) (workers : ℕ) (reply : Reply) →
      IsReply forms (jobs.Follow 2048 workers 1 1 None limits) second_file reply ↔
      (reply ≡ Ok (second_text forms limits, Done))
  -- So a run that returns a required reply unless memory runs out writes exactly this text. By the
  -- clause `exact` of `RunsCommand`, the program does so if no call on the outside fails.
  pub written : (forms limits held : List ℕ) (workers : ℕ) (status : Status)
      (new : Option (List ℕ)) →
      ((reply : Reply) →
      IsReply forms (jobs.Follow 2048 workers 1 1 None limits) second_file reply →
      (status ≡ NoMemory) ⊎ AnswersAfter held reply status new) →
      (status ≡ NoMemory)
      ⊎ ((status ≡ Done) × (new ≡ Some (held ++ second_text forms limits)))

-- ---- with noise of 89

-- The bytes of the worked file with noise of 89. They are those of a cell whose sync channel has
-- gain 1.
abbrev pub margin_bytes : List ℕ
margin_bytes = made_file Sixteen (cell_beside (Some (sync_with 1)))

pub record MeetsEachNoisePremise : Type 0 where
  -- They are a sample file of the cell with noise of 89, which its sync channel bears, for one
  -- finger and any span of at least sixteen samples.
  pub noisy : (span : ℕ) → 16 ≤ span → span ≤ 737280 →
      IsNoisyFile 89 margin_bytes Sixteen cell span 1 (header_of Sixteen cell) file
  -- `follow` must write exactly the text of the pilot, with the energy that the file has at the
  -- cell's phase, of the two whole transmissions, and of the pages of the four half-frames after
  -- the mark. The run ends well.
  pub sync : sync_sent cell ≡ sync_event 294848 0 ∷ sync_event 589760 1 ∷ []
  pub pages : paging_sent cell 1 ≡ replicate 4 last_page
  pub required : (forms limits : List ℕ) (workers span : ℕ) (reply : Reply) → 16 ≤ span →
      span ≤ 737280 →
      IsReply forms (jobs.Follow span workers 1 1 None limits) margin_bytes reply →
      let own = energy (take span file) (phase_at cell 0) in
      reply ≡ Ok (run_text (kept_by limits forms) (sent_events cell own 1 None), Done)

-- ---- with any noise up to 89

-- the same cell with a pilot gain of 2,000
abbrev pub loud_cell : CellPlan
loud_cell = second_with 2000

-- For a script with this pilot, the only remaining premise is that a file is near: the search finds
-- the cell's path in each file with noise of at most 89 in I and in Q of each sample, the most that
-- the sync channel bears. So each command reports what the cell sends, whatever the noise is.
pub record ComesBackThroughAnyNoise : Type 0 where
  pub named : plan_named Sixteen (script_with_pilot (codes "2000")) ≡ Ok loud_cell
  pub margin : IsMargin loud_cell (60 ∷ 30 ∷ []) 89
  pub through : IsHeardThrough 89 Sixteen loud_cell 2048
  pub back : ComesBackThrough 89 loud_cell 2048
  -- `follow` must write exactly the text of the pilot, with the energy that the file has at the
  -- cell's phase, of the four whole transmissions, and of all whole pages of channel 1. The run
  -- ends well.
  pub sync : sync_sent loud_cell ≡ second_messages
  pub whole : (workers : ℕ) (limits : List ℕ) →
      HoldsOfNearReplies 89 loud_cell (jobs.Follow 2048 workers 1 1 None limits)
      (λ forms samples reply.
      let own = energy (take 2048 samples) (phase_at loud_cell 0) in
      reply ≡ Ok (run_text (kept_by limits forms) (sent_events loud_cell own 1 None), Done))
