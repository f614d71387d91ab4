-- Lemmas on what runs promise: one that receives a sample file, makes one or tries a link does its job.
use Rattle.run_replies.proofs.Common.{◌≡◌, ◌≢◌, ℕ, ◌≤◌, ◌⊎◌, inl, inr, List, refl, subst, arith, Option, None, Some, IfSome, Result, Err}
use Rattle.run_replies.proofs.Common.{Width}
use Rattle.run_replies.proofs.Common.{IfSome_then, Appends, Rose, KeptTap, Job, Status, Make, Trial, IsOfFiles, ended, AnswersAfter}
use Rattle.run_replies.proofs.Common.{IsAnswered, IsFileEnd, IsFileReply, IsScriptEnd, IsScriptReply, IsReply, IsTrialEnd, IsVerdict, Reply}
use Rattle.run_replies.proofs.Common.{taps_for, MakesFile, ReceivesFile, RunsJob, Flow, flow, trial_line}
use Rattle.run_replies.proofs.Bounds.{none_most}
use Rattle.run_replies.proofs.Replies.{HasTrialCauses, early_by, failed_with, fault_required, made_required, named_well, required_answer}
use Rattle.run_replies.proofs.Replies.{same_job}
use Rattle.run_replies.proofs.Replies.{script_cut, script_done, script_fault_required, text_required, trial_done, trial_early}
use Rattle.run_replies.proofs.Replies.{trial_end, trial_part, trial_verdict}

module _ {source sink : Flow} where
  -- ---- a run over a sample file

  file_verdict : (taps : List KeptTap) (job : Job) (status : Status) →
      ReceivesFile taps job status source sink → IsVerdict status →
      IfSome source.before (λ bytes. IsAnswered (IsFileReply taps job bytes) status sink.before sink.after)
  file_verdict taps job Status.Done run verdict = IfSome_then source.before (run.done tt) (λ bytes wrote. text_required wrote)
  file_verdict taps job Status.NoSync run verdict = IfSome_then source.before (run.done tt) (λ bytes wrote. text_required wrote)
  file_verdict taps job (Status.BadFile fault) run verdict =
      IfSome_then source.before (run.place fault refl) (λ bytes is. fault_required fault is)
  file_verdict taps job (Status.BadScript fault) run verdict = absurd run.others
  file_verdict taps job status run verdict = absurd verdict

  file_end : (taps : List KeptTap) (job : Job) (status : Status) →
      ReceivesFile taps job status source sink → IsFileEnd status
  file_end taps job (Status.BadFile fault) run = (run.bad_file fault refl).0
  file_end taps job (Status.BadScript fault) run = absurd run.others
  file_end taps job Status.BadWords run = absurd run.others
  file_end taps job status run = tt

  -- taps have one name
  pub with_taps : {taps named : List KeptTap} {job : Job} {status : Status} → taps ≡ named →
      ReceivesFile taps job status source sink →
      ReceivesFile named job status source sink
  with_taps {taps} {named} {job} {status} same run =
      subst
      (λ (k : List KeptTap). ReceivesFile k job status source sink) same run

  pub file_run : (forms : List ℕ) (job : Job) (status : Status) →
      ((width : Width) → job ≢ Make width) → ((number workers : ℕ) → job ≢ Trial number workers) →
      ReceivesFile (taps_for job forms) job status source sink →
      RunsJob forms job status source sink
  file_run forms (Make width) status unmade untried run = absurd (unmade width refl)
  file_run forms (Trial number workers) status unmade untried run = absurd (untried number workers refl)
  file_run forms job status unmade untried run = record {
    kind = (file_end (taps_for job forms) job status run, run.alone);
    verdict = file_verdict (taps_for job forms) job status run;
    read_fault = run.read_fault;
    write_fault = λ lost. (run.write_fault lost, run.begun lost);
    memory = λ none. (run.memory none, run.early none);
    early = early_by status run.header (λ fault is. absurd (subst IsOfFiles is run.others));
    header = run.header_alone;
    at_end = λ reads. run.at_end;
    unread = λ never. absurd (never tt);
    bound = run.bound;
    trial = λ number workers is. absurd (cc);
    written = record { text = run.written.text; written = run.written.written; part = run.written.part };
    cut = run.cut;
    long = run.long;
    later_source = run.later_source;
    later_sink = run.later_sink;
  }

  -- ---- a run over a script

  script_verdict : (width : Width) (status : Status) →
      MakesFile width status source sink → IsVerdict status →
      IfSome source.before (λ bytes. IsAnswered (IsScriptReply width bytes) status sink.before sink.after)
  script_verdict width Status.Done run verdict = IfSome_then source.before (run.done refl) (λ bytes wrote. made_required wrote)
  script_verdict width Status.NoSync run verdict = absurd (run.others.0 refl)
  script_verdict width (Status.BadFile fault) run verdict = absurd (run.others.2 fault refl)
  script_verdict width (Status.BadScript fault) run verdict =
      IfSome_then source.before (run.bad_script fault refl).2 (λ bytes is. script_fault_required fault is)
  script_verdict width status run verdict = absurd verdict

  script_end : (width : Width) (status : Status) →
      MakesFile width status source sink → IsScriptEnd status
  script_end width Status.NoSync run = absurd (run.others.0 refl)
  script_end width (Status.BadFile fault) run = absurd (run.others.2 fault refl)
  script_end width (Status.BadScript fault) run = (run.bad_script fault refl).0
  script_end width Status.BadWords run = absurd (run.others.1 refl)
  script_end width status run = tt

  pub made_run : (forms : List ℕ) (width : Width) (status : Status) →
      MakesFile width status source sink →
      RunsJob forms (Make width) status source sink
  made_run forms width status run = record {
    kind = script_end width status run;
    verdict = script_verdict width status run;
    read_fault = run.read_fault;
    write_fault = λ lost. (run.write_fault lost, run.lawful lost);
    memory = λ none. (run.memory none, run.early none);
    early = early_by status (λ fault is. absurd (run.others.2 fault is))
        (λ fault is. (run.bad_script fault is).1);
    header = λ fault is. absurd (run.others.2 fault is);
    at_end = λ reads end. run.at_end (script_done status run.others.0 end);
    unread = λ never. absurd (never tt);
    bound = run.bound;
    trial = λ number workers is. absurd (cc);
    written = record { text = run.written.text; written = run.written.written; part = run.written.part };
    cut = λ cut. run.unwritten (script_cut status run.others.2 cut);
    long = λ long. tt;
    later_source = run.later_source;
    later_sink = run.later_sink;
  }

  -- ---- a job

  -- where nothing failed, a run answers what its input requires
  pub exact_answer : (forms : List ℕ) (job : Job) (status : Status) →
      RunsJob forms job status source sink → (bytes held : List ℕ) (reply : Reply) → source.before ≡ Some bytes →
      sink.before ≡ Some held → IsReply forms job bytes reply → ¬ (Rose source.faults source.faults_after) →
      ¬ (Rose sink.faults sink.faults_after) → (status ≡ Status.NoMemory) ⊎ AnswersAfter held reply status sink.after
  exact_answer forms job Status.BadWords run bytes held reply is was required reads writes =
      absurd (named_well job run.kind)
  exact_answer forms job Status.ReadFault run bytes held reply is was required reads writes =
      absurd (reads (run.read_fault refl))
  exact_answer forms job Status.WriteFault run bytes held reply is was required reads writes =
      absurd (writes (run.write_fault refl).0)
  exact_answer forms job Status.NoMemory run bytes held reply is was required reads writes = inl refl
  exact_answer forms job status run bytes held reply is was required reads writes =
      inr (required_answer forms job status bytes held reply source.before sink.before sink.after (run.verdict tt) is was required)

  -- what is promised of one job that the arguments name is promised of each
  pub run_of : {forms : List ℕ} {status : Status} {named : Option Job} {one : Job} (job : Job) →
      named ≡ Some one → named ≡ Some job →
      RunsJob forms one status source sink →
      RunsJob forms job status source sink
  run_of {forms} {status} {named} {one} job so also run =
      subst
      (λ (j : Job). RunsJob forms j status source sink) (same_job named one job so also) run

-- ---- a trial

-- of its input nothing is asked
any_input : (rest : Option (List ℕ)) → IfSome rest (λ bytes. Unit {0})
any_input None = tt
any_input (Some bytes) = tt

pub trial_run : (forms : List ℕ) (number workers : ℕ) (ran : Result (Unit {0}) Status)
    (rest : Option (List ℕ)) (misread : ℕ) {SameSource : Type 0} {old new : Option (List ℕ)}
    {miswritten miswritten_now : ℕ} {SameSink : Type 0} → HasTrialCauses number ran old new →
    (ran ≡ Err Status.NoMemory → SameSink) →
    (ran ≡ Err Status.WriteFault → Rose miswritten miswritten_now) → miswritten ≤ miswritten_now → SameSource →
    RunsJob forms (Trial number workers) (ended ran) (flow rest rest misread misread SameSource)
    (flow old new miswritten miswritten_now SameSink)
trial_run forms number workers ran rest misread {SameSource} {old} {new} causes memory write_fault
    later unread =
    let end : IsTrialEnd (ended ran) = trial_end number ran causes in
    record {
      kind = end;
      verdict = trial_verdict number ran rest old new causes;
      read_fault = λ is. absurd (subst IsTrialEnd is end);
      write_fault = λ lost. (
        write_fault
            (failed_with ran Status.WriteFault (λ (r : Status.WriteFault ≡ Status.Done). cc) lost),
        any_input rest,
      );
      memory = λ none. (
        memory (failed_with ran Status.NoMemory (λ (r : Status.NoMemory ≡ Status.Done). cc) none),
        inl unread,
      );
      early = λ early. absurd (trial_early number ran causes early);
      header = λ fault is. absurd (subst IsTrialEnd is end);
      at_end = λ reads. absurd reads;
      unread = λ never. unread;
      bound = none_most 0 rest;
      trial = λ other others is done.
          let same : number ≡ other = cc in
          subst (λ (n : ℕ). Appends old new (trial_line n)) same
          (trial_done number ran causes done);
      written = trial_part number ran causes;
      cut = λ cut. tt;
      long = λ long. tt;
      later_source = omega arith;
      later_sink = later;
    }
