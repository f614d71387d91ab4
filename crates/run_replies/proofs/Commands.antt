-- Lemmas on what is promised of a command: a run that does the job that arguments name does their command.
use Rattle.run_replies.proofs.Common.{Flow}
use Rattle.run_replies.proofs.Common.{◌≡◌, ◌↔◌, ℕ, ◌⊎◌, List, [], refl, subst, Option, Some, Job, IsLawfulJob, Status, IsEndOf, RunsCommand}
use Rattle.run_replies.proofs.Common.{RunsJob, Make, Trial, Follow}
use Rattle.run_replies.proofs.CleanLinks.{each_answer}
use Rattle.run_replies.proofs.CleanTexts.{clean_answer}
use Rattle.run_replies.proofs.Completed.{complete_answer}
use Rattle.run_replies.proofs.Replies.{named_well, same_job}
use Rattle.run_replies.proofs.JobRuns.{exact_answer, run_of}

-- ---- ends that each job has

pub write_fault_end : (job : Job) → IsEndOf job Status.WriteFault
write_fault_end (Make width) = tt
write_fault_end (Trial number workers) = tt
write_fault_end job = (tt, λ unheard is. absurd (cc))

-- ---- the job that is named

named_end : {P : Type 0} (job : Job) (status : Status) → IsEndOf job status → status ≡ Status.BadWords → P
named_end job status end bad = absurd (named_well job (subst (IsEndOf job) bad end))

module _ {source sink : Flow} where
  pub command_run : {forms : List ℕ} {status : Status} {named : Option Job} {one : Job} →
      IsLawfulJob one → named ≡ Some one →
      RunsJob forms one status source sink →
      RunsCommand forms named status source sink sink.Same
  command_run {forms} {status} {named} {one} lawful so ran =
      let run = λ (job : Job) (also : named ≡ Some job). run_of job so also ran in
      let lawful_named = λ (job : Job) (also : named ≡ Some job).
      subst IsLawfulJob (same_job named one job so also) lawful in
      record {
        bad_words = (named_end one status ran.kind, λ none. absurd (cc));
        untouched = named_end one status ran.kind;
        exact = λ job bytes held reply also.
            exact_answer forms job status (run job also) bytes held reply;
        clean = λ width script bytes held plan span workers fingers paging traffic limits header
            samples also told was file enough clean reads writes.
            let job = Follow span workers fingers paging traffic limits in
            each_answer width script plan span workers fingers paging traffic limits header samples clean
            file.counted (lawful_named job also).3 _ bytes held status _ file enough
            (λ reply required. exact_answer _ _ _ (run job also) bytes held reply told was required reads
            writes);
        all_distinct = λ width script bytes held plan span workers fingers paging traffic limits
            header samples also told was file enough clean free follows reads writes.
            let job = Follow span workers fingers paging traffic limits in
            clean_answer _ width script bytes held plan span workers fingers paging traffic limits header
            samples status _ file enough (lawful_named job also).3 clean free follows
            (λ reply required. exact_answer _ _ _ (run job also) bytes held reply told was required reads
            writes);
        complete = λ job also. complete_answer forms job status (run job also);
        kind = λ job also. (run job also).kind;
        verdict = λ job also. (run job also).verdict;
        read_fault = ran.read_fault;
        write_fault = λ job also. (run job also).write_fault;
        memory = λ job also. (run job also).memory;
        unread = λ job also. (run job also).unread;
        trial = λ number workers also. (run (Trial number workers) also).trial number workers refl;
        at_end = λ job also. (run job also).at_end;
        early = ran.early;
        header = ran.header;
        bound = λ job also. (run job also).bound;
        written = λ job also. (run job also).written;
        cut = λ job also. (run job also).cut;
        long = λ job also. (run job also).long;
        later_source = ran.later_source;
        later_sink = ran.later_sink;
      }
