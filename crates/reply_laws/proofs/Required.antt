-- Each input has a reply, the number of workers changes none, and what each command must write.
use Rattle.reply_laws.proofs.Common.{◌≡◌, ℕ, zero, suc, ◌*◌, ◌+◌, ◌≤◌, ◌++◌, inl, inr, List, [], ◌∷◌, length, take, drop, refl, sym, ap, Ok}
use Rattle.reply_laws.proofs.Common.{◌∙◌, arith, All, append-nil, length-drop, length-take-le, take-append-drop, Err, cases_lt, All-cons}
use Rattle.reply_laws.proofs.Common.{flat_map, read_sfits, Sample, Width, Eight, Sixteen, HasBits, integer_width_of, header_spelling, told}
use Rattle.reply_laws.proofs.Common.{sample_spelling, width_of, Header, AreBytes, AreBytes-drop, AreBytes-from_all, AreBytes-take, CellPlan}
use Rattle.reply_laws.proofs.Common.{opening-ok, sample_bytes, sample_in, plan_named, KeptTap, best_pilot, file_end_of, file_text, Reply}
use Rattle.reply_laws.proofs.Common.{made_file, IsFileReply, Job, Status, nil_from_length, none_within, taps_for}
use Rattle.reply_laws.proofs.Common.{whole_file}
use Rattle.run_replies.proofs.Common.{Result, opening, sample_len, FileFault, Extra, Short, TooFew, ScriptFault, IsFaultIn, file_end}
use Rattle.run_replies.proofs.Common.{IsScriptReply, span_of, trial_line}
use Rattle.reply_laws.specs.ReplyLaws.{EachInputHasAReply, FindWritesThePilot, FollowWritesTheEvents, IdleWritesTheSlots}
use Rattle.reply_laws.specs.ReplyLaws.{ListWritesTheFrames}
use Rattle.reply_laws.specs.ReplyLaws.{MakeWritesTheFile, Rate2WritesTheFrames, SurveyWritesTheRanks, TrialWritesItsLine}
use Rattle.reply_laws.specs.ReplyLaws.{WorkersChangeNoReply}
use Rattle.reply_laws.specs.ReplyLaws.{with_workers}
use Rattle.command_line.specs.declared.job.Job.TheVariants as jobs

-- ---- bytes are those of samples

record Spells (width : Width) (n : ℕ) (bytes : List ℕ) : Type 0 where
  samples : List Sample
  counted : length samples ≡ n
  in_range : All (HasBits width) samples
  spelled : bytes ≡ flat_map (sample_spelling width) samples

nothing : (width : Width) → sample_len width * 0 ≡ 0
nothing Sixteen = refl
nothing Eight = refl

one_more : (width : Width) (n : ℕ) → sample_len width * suc n ≡ sample_len width + sample_len width * n
one_more Sixteen n = omega arith
one_more Eight n = omega arith

has_bits : (width : Width) (bytes : List ℕ) → HasBits width (sample_in width bytes)
has_bits width bytes = record {
  in_phase = read_sfits (integer_width_of width) _;
  quadrature = read_sfits (integer_width_of width) _;
}

-- Any bytes that are as long as n samples spell n samples. By induction: each sample's bytes spell
-- the one that is read from them, and the rest spell the others.
spells : (width : Width) (n : ℕ) (bytes : List ℕ) → AreBytes bytes →
    length bytes ≡ sample_len width * n → Spells width n bytes
spells width zero bytes small long = record {
  samples = [];
  counted = refl;
  in_range = none_within width;
  spelled = nil_from_length bytes (long ∙ nothing width);
}
spells width (suc n) bytes small long =
    let l = sample_len width in
    let front = take l bytes in
    let back = drop l bytes in
    let room : l ≤ length bytes = omega (arith, long, one_more width n) in
    let less : length back ≡ l * n = omega (arith, long, one_more width n, length-drop l bytes) in
    let more = spells width n back (AreBytes-drop l bytes small) less in
    let first = sample_in width front in
    record {
      samples = first ∷ more.samples;
      counted = ap suc more.counted;
      in_range = All-cons (HasBits width) first more.samples (has_bits width front) more.in_range;
      spelled =
          sym (take-append-drop l bytes)
          ∙ ap (λ (xs : List ℕ). xs ++ back)
          (sample_bytes width front (length-take-le l bytes room) (AreBytes-take l bytes small))
          ∙ ap (λ (xs : List ℕ). sample_spelling width first ++ xs) more.spelled;
    }

-- ---- each input has a reply

faulty : {taps : List KeptTap} {job : Job} {bytes : List ℕ} (fault : FileFault) → IsFaultIn (span_of job) bytes fault →
    (reply : Reply) × IsFileReply taps job bytes reply
faulty fault is = (Err (Status.BadFile fault), record { fault = fault; is = is; end_is = refl })

opened_required : (taps : List KeptTap) (job : Job) (bytes : List ℕ) (header : Header) →
    AreBytes bytes → opening bytes ≡ Ok header → (reply : Reply) × IsFileReply taps job bytes reply
opened_required taps job bytes header small is =
    let opened = opening-ok bytes header small is in
    elim (cases_lt header.count (span_of job)) [
      | inl few ↦ faulty (TooFew header.count) (inr (header, is, (refl, few)))
      | inr enough ↦ elim (cases_lt (length bytes) (file_end header)) [
        | inl short ↦ faulty (Short (length bytes)) (inr (header, is, (enough, refl, short)))
        | inr longer ↦ elim (cases_lt (file_end header) (length bytes)) [
          | inl long ↦ faulty (Extra (file_end header)) (inr (header, is, (enough, refl, long)))
          | inr just ↦
              let rest : length (drop 16 bytes) ≡ sample_len (width_of header) * header.count =
              omega (arith, longer, just, length-drop 16 bytes) in
              let s =
              spells (width_of header) header.count (drop 16 bytes) (AreBytes-drop 16 bytes small) rest
              in (
                Ok (file_text taps job header s.samples, file_end_of job header s.samples),
                whole_file (record {
                  lawful = opened.lawful;
                  counted = s.counted;
                  in_range = s.in_range;
                  spelled =
                      opened.spelled
                      ∙ ap (λ (xs : List ℕ). header_spelling header ++ xs) s.spelled;
                }) (omega (arith, enough, s.counted)),
              )
        ]
      ]
    ]

file_required : (taps : List KeptTap) (job : Job) (bytes : List ℕ) (due : Result Header FileFault) →
    AreBytes bytes → opening bytes ≡ due → (reply : Reply) × IsFileReply taps job bytes reply
file_required taps job bytes (Ok header) small is = opened_required taps job bytes header small is
file_required taps job bytes (Err fault) small is = faulty fault (inl is)

script_required : (width : Width) (bytes : List ℕ) (due : Result CellPlan ScriptFault) →
    plan_named width bytes ≡ due → (reply : Reply) × IsScriptReply width bytes reply
script_required width bytes (Ok plan) is = (
  Ok (made_file width plan, Status.Done),
  record { plan = plan; named = is; text_is = refl; end_is = refl },
)
script_required width bytes (Err fault) is =
    (Err (Status.BadScript fault), record { fault = fault; is = is; end_is = refl })

pub each_required : EachInputHasAReply
each_required forms (jobs.Make width) bytes small = script_required width bytes (plan_named width bytes) refl
each_required forms (jobs.Trial number workers) bytes small = (Ok (trial_line number, Status.Done), refl)
each_required forms job bytes small =
    file_required (taps_for job forms) job bytes (opening bytes) (AreBytes-from_all bytes small) refl

-- ---- the number of workers changes no reply

shared : (taps : List KeptTap) (job : Job) (n : ℕ) (bytes : List ℕ) (reply : Reply) →
    IsFileReply taps job bytes reply → IsFileReply taps (with_workers n job) bytes reply
unfolding file_text file_end_of
shared taps (jobs.Make width) n bytes reply f = f
shared taps job n bytes (Ok all) w = record {
  header = w.header;
  samples = w.samples;
  file = w.file;
  enough = w.enough;
  text_is = w.text_is;
  end_is = w.end_is;
}
shared taps job n bytes (Err end) f = f

pub workers_change_nothing : WorkersChangeNoReply
workers_change_nothing forms (jobs.Make width) n bytes reply required = required
workers_change_nothing forms (jobs.Trial number workers) n bytes reply required = required
workers_change_nothing forms job n bytes reply required = shared _ job n bytes reply required

-- ---- what each command must write

pub find_writes : FindWritesThePilot
unfolding file_text file_end_of told best_pilot
find_writes forms span workers bytes header samples file enough = whole_file file enough

pub follow_writes : FollowWritesTheEvents
unfolding file_text file_end_of told
follow_writes forms span workers fingers paging traffic limits bytes header samples file enough = whole_file file enough

pub rate2_writes : Rate2WritesTheFrames
unfolding file_text file_end_of told
rate2_writes span workers fingers offset esn row forms bytes header samples file enough = whole_file file enough

pub list_writes : ListWritesTheFrames
unfolding file_text file_end_of told
list_writes span workers fingers offset esn row k forms bytes header samples file enough = whole_file file enough

pub idle_writes : IdleWritesTheSlots
unfolding file_text file_end_of told
idle_writes span workers fingers paging key cycle forms bytes header samples file enough = whole_file file enough

pub survey_writes : SurveyWritesTheRanks
unfolding file_text file_end_of told
survey_writes forms span workers base width top bytes header samples file enough = whole_file file enough

pub make_writes : MakeWritesTheFile
make_writes forms width bytes plan is = record { plan = plan; named = is; text_is = refl; end_is = refl }

pub trial_writes : TrialWritesItsLine
trial_writes forms number workers bytes = refl
