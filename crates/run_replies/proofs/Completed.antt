-- An input without a fault is read to its end, unless a call on the outside fails or memory runs out.
use Rattle.run_replies.proofs.Common.{Flow}
use Rattle.run_replies.proofs.Common.{◌≡◌, ℕ, ◌⊎◌, inl, inr, List, refl, sym, subst, Bool, true, false, Option, None, Some, IfSome, Result}
use Rattle.run_replies.proofs.Common.{Ok, Err, IsOk, Rose, FileFault, ScriptFault, plan_named, KeptTap, Job, Status, Make, Trial, IsEnd}
use Rattle.run_replies.proofs.Common.{IsSearchable, end_when, file_end_of, file_text, made_file, Answers, IsEndOf, IsAnswered, IsFileReply}
use Rattle.run_replies.proofs.Common.{IsLawfulInput, IsReply, Reply, ReadsInput, ReadsWell, span_of, taps_for, RunsJob, trial_line}
use Rattle.run_replies.proofs.Replies.{named_well, one_reply, whole_file}

-- an input requires a whole text, and a good end
record RequiresWholeText (asks : Reply → Type 0) : Type 0 where
  whole : List ℕ × Status
  required : asks (Ok whole)
  ends : IsEnd whole.1

good_end : (told : Bool) → IsEnd (end_when told)
good_end true = tt
good_end false = tt

file_end_is_good : (job : Job) (bytes : List ℕ) (s : IsSearchable bytes (span_of job)) →
    IsEnd (file_end_of job s.header s.samples)
unfolding file_end_of
file_end_is_good job bytes s = good_end _

file_required : (taps : List KeptTap) (job : Job) (bytes : List ℕ) → IsSearchable bytes (span_of job) →
    RequiresWholeText (IsFileReply taps job bytes)
file_required taps job bytes s = record {
  whole = (file_text taps job s.header s.samples, file_end_of job s.header s.samples);
  required = whole_file s.file s.enough;
  ends = file_end_is_good job bytes s;
}

named : {A B : Type 0} (r : Result A B) → IsOk r → (x : A) × (r ≡ Ok x)
named (Ok x) is = (x, refl)
named (Err e) is = cc

all_required : (forms : List ℕ) (job : Job) (bytes : List ℕ) → IsLawfulInput job bytes →
    RequiresWholeText (IsReply forms job bytes)
all_required forms (Make width) bytes lawful =
    let plan = named (plan_named width bytes) lawful in
    record {
      whole = (made_file width plan.0, Status.Done);
      required = record { plan = plan.0; named = plan.1; text_is = refl; end_is = refl };
      ends = tt;
    }
all_required forms (Trial number workers) bytes lawful =
    record { whole = (trial_line number, Status.Done); required = refl; ends = tt }
all_required forms job bytes lawful = file_required (taps_for job forms) job bytes lawful

-- so what it answers is that end
answered_end : (forms : List ℕ) (job : Job) (bytes : List ℕ) (status : Status)
    (old new : Option (List ℕ)) → IsLawfulInput job bytes →
    IsAnswered (IsReply forms job bytes) status old new → IsEnd status
answered_end forms job bytes status old new lawful answered =
    let all = all_required forms job bytes lawful in
    let same = one_reply forms job bytes answered.reply (Ok all.whole) answered.required all.required in
    let answers : Answers (Ok all.whole) status old new =
    subst (λ (r : Reply). Answers r status old new) same answered.answers in
    subst IsEnd (sym answers.0) all.ends

-- ---- a job that reads its input

file_read : (job : Job) (fault : FileFault) → IsEndOf job (Status.BadFile fault) → ReadsInput job
file_read (Trial number workers) fault end = absurd end
file_read job fault end = tt

script_read : (job : Job) (fault : ScriptFault) → IsEndOf job (Status.BadScript fault) → ReadsInput job
script_read (Trial number workers) fault end = absurd end
script_read job fault end = tt

source_read : (job : Job) → IsEndOf job Status.ReadFault → ReadsInput job
source_read (Trial number workers) end = absurd end
source_read job end = tt

-- its input is known
read_well : (job : Job) (rest : Option (List ℕ)) (Failed : Type 0) → ReadsInput job → ReadsWell job rest Failed →
    (bytes : List ℕ) × (rest ≡ Some bytes) × IsLawfulInput job bytes × ¬ Failed
read_well (Trial number workers) rest Failed reads well = absurd reads
read_well job None Failed reads well = absurd well
read_well job (Some bytes) Failed reads well = (bytes, refl, well.0, well.1)

told_end : (forms : List ℕ) (job : Job) (status : Status) (rest old new : Option (List ℕ))
    (Failed : Type 0) → ReadsInput job → ReadsWell job rest Failed →
    IfSome rest (λ bytes. IsAnswered (IsReply forms job bytes) status old new) → IsEnd status
told_end forms job status rest old new Failed reads well answered =
    let known = read_well job rest Failed reads well in
    answered_end forms job known.0 status old new known.2
    (subst (λ (all : Option (List ℕ)).
    IfSome all (λ bytes. IsAnswered (IsReply forms job bytes) status old new)) known.1 answered)

-- where nothing failed, and memory didn't run out, a run over a good input ends well
module _ {source sink : Flow} where
  pub complete_answer : (forms : List ℕ) (job : Job) (status : Status) →
      RunsJob forms job status source sink → ReadsWell job source.before (Rose source.faults source.faults_after) →
      ¬ (Rose sink.faults sink.faults_after) → (status ≡ Status.NoMemory) ⊎ IsEnd status
  complete_answer forms job (Status.BadFile fault) run well writes =
      inr (told_end forms job (Status.BadFile fault) source.before sink.before sink.after (Rose source.faults source.faults_after)
      (file_read job fault run.kind) well (run.verdict tt))
  complete_answer forms job (Status.BadScript fault) run well writes =
      inr (told_end forms job (Status.BadScript fault) source.before sink.before sink.after (Rose source.faults source.faults_after)
      (script_read job fault run.kind) well (run.verdict tt))
  complete_answer forms job Status.BadWords run well writes = absurd (named_well job run.kind)
  complete_answer forms job Status.ReadFault run well writes =
      absurd ((read_well job source.before (Rose source.faults source.faults_after) (source_read job run.kind) well).3 (run.read_fault
      refl))
  complete_answer forms job Status.WriteFault run well writes = absurd (writes (run.write_fault refl).0)
  complete_answer forms job Status.NoMemory run well writes = inl refl
  complete_answer forms job good run well writes = inr tt
