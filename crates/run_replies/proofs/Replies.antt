-- Lemmas on what a run must write: what its answer says follows from the causes of each end, and no input
-- has two replies.
use Rattle.run_replies.proofs.Common.{◌≡◌, ◌≢◌, ℕ, ◌≤◌, ◌⊎◌, inl, inr, List, [], length, refl, sym, ap, ◌∙◌, subst, Option, None, Some, Ok}
use Rattle.run_replies.proofs.Common.{IfErr, IfSome, OnErr, OnOk, Result, Err, map, take, append-nil, StartsWith, Appends, Sample, Header}
use Rattle.run_replies.proofs.Common.{IsSampleFile, FileFault, Width, file_unique, CellPlan, ScriptFault, plan_named, KeptTap, kept_by}
use Rattle.run_replies.proofs.Common.{Job, front_begins, taken_begins, Status, Make, Trial, IsCut, IsEnd, ended, IsFaultIn, IsHeaderFault}
use Rattle.run_replies.proofs.Common.{IsSearchable, WritesText, file_end_of, file_text, span_of, Reply, WritesMadeFile, made_file, Answers}
use Rattle.run_replies.proofs.Common.{AnswersAfter, IsAnswered, IsEarlyFault, IsFaultyFile, IsFaultyScript, IsFileReply, IsReply}
use Rattle.run_replies.proofs.Common.{IsScriptReply, IsEndOf, IsTrialEnd, IsTrialReply, IsVerdict, IsWholeFile, IsWholeScript}
use Rattle.run_replies.proofs.Common.{GainsNothingOr, taps_for, trial_line, AppendsPrefix}
use Rattle.run_replies.proofs.Ends.{by_end}
use Rattle.run_replies.proofs.Files.{no_fault, one_fault}

-- an early fault is one of the file's header, or of the script
pub early_by : (status : Status) {Same : Type 0} →
    ((fault : FileFault) → status ≡ Status.BadFile fault → IsHeaderFault fault → Same) →
    ((fault : ScriptFault) → status ≡ Status.BadScript fault → Same) → IsEarlyFault status → Same
early_by (Status.BadFile fault) file script early = file fault refl early
early_by (Status.BadScript fault) file script early = script fault refl
early_by status file script early = absurd early

-- ---- a run over a sample file

-- all of the text was written
pub text_required : {taps : List KeptTap} {job : Job} {status : Status} {bytes : List ℕ}
    {old new : Option (List ℕ)} → WritesText taps job status bytes old new →
    IsAnswered (IsFileReply taps job bytes) status old new
text_required {taps} {job} {status} w = record {
  reply = Ok (file_text taps job w.searchable.header w.searchable.samples, status);
  required = record {
    header = w.searchable.header;
    samples = w.searchable.samples;
    file = w.searchable.file;
    enough = w.searchable.enough;
    text_is = refl;
    end_is = w.ends;
  };
  answers = (refl, w.written);
}

-- the whole text of a file
pub whole_file : {taps : List KeptTap} {job : Job} {bytes : List ℕ} {header : Header}
    {samples : List Sample} → IsSampleFile bytes header samples → span_of job ≤ length samples →
    IsWholeFile taps job bytes (file_text taps job header samples) (file_end_of job header samples)
whole_file {taps} {job} {bytes} {header} {samples} file enough = record {
  header = header;
  samples = samples;
  file = file;
  enough = enough;
  text_is = refl;
  end_is = refl;
}

-- the file's fault was told
pub fault_required : {taps : List KeptTap} {job : Job} {bytes : List ℕ} {old new : Option (List ℕ)}
    (fault : FileFault) → IsFaultIn (span_of job) bytes fault →
    IsAnswered (IsFileReply taps job bytes) (Status.BadFile fault) old new
fault_required fault is = record {
  reply = Err (Status.BadFile fault);
  required = record { fault = fault; is = is; end_is = refl };
  answers = refl;
}

-- ---- a run over a script

pub made_required : {width : Width} {bytes : List ℕ} {old new : Option (List ℕ)} → WritesMadeFile width bytes old new →
    IsAnswered (IsScriptReply width bytes) Status.Done old new
made_required {width} w = record {
  reply = Ok (made_file width w.plan, Status.Done);
  required = record { plan = w.plan; named = w.named; text_is = refl; end_is = refl };
  answers = (refl, w.written);
}

pub script_fault_required : {width : Width} {bytes : List ℕ} {old new : Option (List ℕ)}
    (fault : ScriptFault) → plan_named width bytes ≡ Err fault →
    IsAnswered (IsScriptReply width bytes) (Status.BadScript fault) old new
script_fault_required fault is = record {
  reply = Err (Status.BadScript fault);
  required = record { fault = fault; is = is; end_is = refl };
  answers = refl;
}

-- it is done where it ends well
pub script_done : (status : Status) → status ≢ Status.NoSync → IsEnd status → status ≡ Status.Done
script_done status other end =
    by_end (λ (s : Status). s ≢ Status.NoSync → s ≡ Status.Done) status end (λ never. refl)
    (λ never. absurd (never refl)) other

-- a read of a script failed
pub script_cut : (status : Status) → ((fault : FileFault) → status ≢ Status.BadFile fault) →
    IsCut status → status ≡ Status.ReadFault
script_cut (Status.BadFile fault) never cut = absurd (never fault refl)
script_cut Status.ReadFault never cut = refl
script_cut status never cut = absurd cut

-- ---- a trial

pub record HasTrialCauses (number : ℕ) (ran : Result (Unit {0}) Status) (old new : Option (List ℕ)) :
    Type 0 where
  pub ok : OnOk ran (Appends old new (trial_line number))
  pub err : OnErr ran (AppendsPrefix old new (trial_line number))
  pub failed : IfErr ran (λ status. (status ≡ Status.NoMemory) ⊎ (status ≡ Status.WriteFault))

-- it failed with the status that it ended with
pub failed_with : (ran : Result (Unit {0}) Status) (status : Status) → status ≢ Status.Done →
    ended ran ≡ status → ran ≡ Err status
failed_with (Ok done) status never is = absurd (never (sym is))
failed_with (Err failed) status never is = ap (λ (s : Status). Err s) is

failed_end : (status : Status) → (status ≡ Status.NoMemory) ⊎ (status ≡ Status.WriteFault) →
    IsTrialEnd status × (¬ (IsVerdict status)) × (¬ (IsEarlyFault status))
failed_end status (inl memory) = rw memory (tt, λ v. v, λ e. e)
failed_end status (inr write) = rw write (tt, λ v. v, λ e. e)

pub trial_end : (number : ℕ) (ran : Result (Unit {0}) Status) {old new : Option (List ℕ)} →
    HasTrialCauses number ran old new → IsTrialEnd (ended ran)
trial_end number (Ok done) causes = tt
trial_end number (Err status) causes = (failed_end status causes.failed).0

pub trial_verdict : (number : ℕ) (ran : Result (Unit {0}) Status) (rest old new : Option (List ℕ)) →
    HasTrialCauses number ran old new → IsVerdict (ended ran) →
    IfSome rest (λ bytes. IsAnswered (IsTrialReply number) (ended ran) old new)
trial_verdict number ran None old new causes verdict = tt
trial_verdict number (Ok done) (Some bytes) old new causes verdict = record {
  reply = Ok (trial_line number, Status.Done);
  required = refl;
  answers = (refl, causes.ok);
}
trial_verdict number (Err status) (Some bytes) old new causes verdict =
    absurd ((failed_end status causes.failed).1 verdict)

pub trial_early : (number : ℕ) (ran : Result (Unit {0}) Status) {old new : Option (List ℕ)} →
    HasTrialCauses number ran old new → ¬ (IsEarlyFault (ended ran))
trial_early number (Ok done) causes early = early
trial_early number (Err status) causes early = (failed_end status causes.failed).2 early

pub trial_done : (number : ℕ) (ran : Result (Unit {0}) Status) {old new : Option (List ℕ)} →
    HasTrialCauses number ran old new → ended ran ≡ Status.Done → Appends old new (trial_line number)
trial_done number (Ok done) causes is = causes.ok
trial_done number (Err status) causes is = absurd ((failed_end status causes.failed).1 (rw is tt))

pub trial_part : (number : ℕ) (ran : Result (Unit {0}) Status) {old new : Option (List ℕ)} →
    HasTrialCauses number ran old new → GainsNothingOr (λ text. StartsWith (trial_line number) text) old new
trial_part number (Ok done) causes = record {
  text = trial_line number;
  written = causes.ok;
  part = inr (front_begins (trial_line number) (trial_line number) []
      (sym (append-nil (trial_line number))));
}
trial_part number (Err status) causes = record {
  text = take causes.err.count (trial_line number);
  written = causes.err.appended;
  part = inr (taken_begins (trial_line number) causes.err.count causes.err.fits);
}

-- ---- one reply

-- a sample file has one text and one end
whole_alike : (taps : List KeptTap) (job : Job) (bytes : List ℕ)
    (one other : List ℕ × Status) → IsWholeFile taps job bytes one.0 one.1 →
    IsWholeFile taps job bytes other.0 other.1 → one ≡ other
whole_alike taps job bytes (text, end) (also, last) a b =
    let same = file_unique bytes a.header b.header a.samples b.samples a.file b.file in
    let texts : text ≡ also = a.text_is
    ∙ ap (λ (h : Header). file_text taps job h a.samples) same.0
    ∙ ap (file_text taps job b.header) same.1 ∙ sym b.text_is in
    let ends : end ≡ last = a.end_is
    ∙ ap (λ (h : Header). file_end_of job h a.samples) same.0
    ∙ ap (file_end_of job b.header) same.1 ∙ sym b.end_is in
    ap (λ (t : List ℕ). (t, end)) texts ∙ ap (λ (s : Status). (also, s)) ends

searchable_of : (taps : List KeptTap) (job : Job) (bytes text : List ℕ) (end : Status) →
    IsWholeFile taps job bytes text end → IsSearchable bytes (span_of job)
searchable_of taps job bytes text end w = record {
  header = w.header;
  samples = w.samples;
  file = w.file;
  enough = w.enough;
}

faulty_alike : (span : ℕ) (bytes : List ℕ) (one other : Status) → IsFaultyFile span bytes one →
    IsFaultyFile span bytes other → one ≡ other
faulty_alike span bytes one other a b =
    a.end_is ∙ ap Status.BadFile (one_fault span bytes a.fault b.fault a.is b.is) ∙ sym b.end_is

pub one_file_reply : (taps : List KeptTap) (job : Job) (bytes : List ℕ) (one other : Reply) →
    IsFileReply taps job bytes one → IsFileReply taps job bytes other → one ≡ other
one_file_reply taps job bytes (Ok one) (Ok other) a b =
    ap (λ (p : List ℕ × Status). Ok p) (whole_alike taps job bytes one other a b)
one_file_reply taps job bytes (Ok one) (Err other) a b =
    absurd (no_fault bytes (span_of job) b.fault (searchable_of taps job bytes one.0 one.1 a) b.is)
one_file_reply taps job bytes (Err one) (Ok other) a b =
    absurd (no_fault bytes (span_of job) a.fault (searchable_of taps job bytes other.0 other.1 b) a.is)
one_file_reply taps job bytes (Err one) (Err other) a b =
    ap (λ (s : Status). Err s) (faulty_alike (span_of job) bytes one other a b)

-- so has a script
made_alike : (width : Width) (bytes : List ℕ) (one other : List ℕ × Status) →
    IsWholeScript width bytes one.0 one.1 → IsWholeScript width bytes other.0 other.1 → one ≡ other
made_alike width bytes (text, end) (also, last) a b =
    let plans : Ok a.plan ≡ Ok b.plan = sym a.named ∙ b.named in
    let same : a.plan ≡ b.plan = cc in
    let texts : text ≡ also = a.text_is ∙ ap (made_file width) same ∙ sym b.text_is in
    let ends : end ≡ last = a.end_is ∙ sym b.end_is in
    ap (λ (t : List ℕ). (t, end)) texts ∙ ap (λ (s : Status). (also, s)) ends

script_faults_alike : (width : Width) (bytes : List ℕ) (one other : Status) →
    IsFaultyScript width bytes one → IsFaultyScript width bytes other → one ≡ other
script_faults_alike width bytes one other a b =
    let faults : Err a.fault ≡ Err b.fault = sym a.is ∙ b.is in
    let same : a.fault ≡ b.fault = cc in
    a.end_is ∙ ap Status.BadScript same ∙ sym b.end_is

never_both : (width : Width) (bytes : List ℕ) (plan : CellPlan) (fault : ScriptFault) →
    plan_named width bytes ≡ Ok plan → ¬ (plan_named width bytes ≡ Err fault)
never_both width bytes plan fault is faulty = cc

pub one_script_reply : (width : Width) (bytes : List ℕ) (one other : Reply) →
    IsScriptReply width bytes one → IsScriptReply width bytes other → one ≡ other
one_script_reply width bytes (Ok one) (Ok other) a b =
    ap (λ (p : List ℕ × Status). Ok p) (made_alike width bytes one other a b)
one_script_reply width bytes (Ok one) (Err other) a b = absurd (never_both width bytes a.plan b.fault a.named b.is)
one_script_reply width bytes (Err one) (Ok other) a b = absurd (never_both width bytes b.plan a.fault b.named a.is)
one_script_reply width bytes (Err one) (Err other) a b =
    ap (λ (s : Status). Err s) (script_faults_alike width bytes one other a b)

-- so has a number
one_trial_reply : (number : ℕ) (one other : Reply) → IsTrialReply number one → IsTrialReply number other → one ≡ other
one_trial_reply number (Ok one) (Ok other) a b = ap (λ (p : List ℕ × Status). Ok p) (a ∙ sym b)
one_trial_reply number (Ok one) (Err other) a b = absurd b
one_trial_reply number (Err one) other a b = absurd a

-- whatever the command
pub one_reply : (forms : List ℕ) (job : Job) (bytes : List ℕ) (one other : Reply) →
    IsReply forms job bytes one → IsReply forms job bytes other → one ≡ other
one_reply forms (Make width) bytes one other a b = one_script_reply width bytes one other a b
one_reply forms (Trial number workers) bytes one other a b = one_trial_reply number one other a b
one_reply forms job bytes one other a b = one_file_reply (taps_for job forms) job bytes one other a b

-- ---- just that reply

settled : (held : List ℕ) (reply : Reply) (status : Status) (new : Option (List ℕ)) →
    Answers reply status (Some held) new → AnswersAfter held reply status new
settled held (Ok whole) status None answers = absurd answers.1
settled held (Ok whole) status (Some now) answers = (answers.0, ap (λ (text : List ℕ). Some text) answers.1)
settled held (Err end) status new answers = answers

-- an answer is that of the reply that the input requires
pub required_answer : (forms : List ℕ) (job : Job) (status : Status) (bytes held : List ℕ) (reply : Reply)
    (rest old new : Option (List ℕ)) → IfSome rest (λ bytes. IsAnswered (IsReply forms job bytes) status old new) →
    rest ≡ Some bytes → old ≡ Some held → IsReply forms job bytes reply → AnswersAfter held reply status new
required_answer forms job status bytes held reply rest old new answered is was required =
    let a : IsAnswered (IsReply forms job bytes) status (Some held) new = rw (is, was) at answered in
    subst (λ (r : Reply). AnswersAfter held r status new) (one_reply forms job bytes a.reply reply a.required required)
    (settled held a.reply status new a.answers)

pub named_well : (job : Job) → ¬ (IsEndOf job Status.BadWords)
named_well (Make width) end = end
named_well (Trial number workers) end = end
named_well job end = end.0

-- ---- what was asked for

pub same_job : (named : Option Job) (one other : Job) → named ≡ Some one → named ≡ Some other → one ≡ other
same_job named one other is so = cc
