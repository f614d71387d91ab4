-- Lemmas on runs that move nothing: for arguments that name no job, or out of memory.
use Rattle.cdma_replay.proofs.Common.{◌≡◌, ℕ, List, [], Option, None, Result, Err, inl, refl, sym, ◌∙◌, arith, Appends-nil, Status}
use Rattle.cdma_replay.proofs.Common.{unread_most, IsEndOf, Job, Make, Trial}
use Rattle.command_line.specs.declared.job.WordFault.{WordFault}
use Rattle.run_replies.specs.Runs.{RunsCommand}
use Rattle.run_ends.specs.Flows.{flow}

-- each job may end out of memory
job_starves : (job : Job) → IsEndOf job Status.NoMemory
job_starves (Make width) = tt
job_starves (Trial number workers) = tt
job_starves job = (tt, λ unheard is. absurd (cc))

module _ {forms : List ℕ} {named : Option Job} {rest : Option (List ℕ)} {misread : ℕ}
    {SameSource : Type 0} {old : Option (List ℕ)} {miswritten : ℕ} {SameSink : Type 0} where
  pub refused_run : named ≡ None → SameSource → SameSink →
      RunsCommand forms named Status.BadWords (flow rest rest misread misread SameSource)
      (flow old old miswritten miswritten SameSink) SameSink
  refused_run none same kept = record {
    bad_words = (λ is. none, λ is. refl);
    untouched = λ is. (same, kept);
    exact = λ job bytes held reply is. absurd (cc);
    clean = λ width script bytes held plan span workers fingers paging traffic limits header samples
        is. absurd (cc);
    all_distinct = λ width script bytes held plan span workers fingers paging traffic limits header
        samples is. absurd (cc);
    complete = λ job is. absurd (cc);
    kind = λ job is. absurd (cc);
    verdict = λ job is. absurd (cc);
    read_fault = λ is. absurd (cc);
    write_fault = λ job is. absurd (cc);
    memory = λ job is. absurd (cc);
    unread = λ job is. absurd (cc);
    trial = λ number workers is. absurd (cc);
    at_end = λ job is. absurd (cc);
    early = λ fault. absurd fault;
    header = λ fault is. absurd (cc);
    bound = λ job is. absurd (cc);
    written = λ job is. absurd (cc);
    cut = λ job is. absurd (cc);
    long = λ job is. absurd (cc);
    later_source = omega arith;
    later_sink = omega arith;
  }

  -- arguments that couldn't be read because memory ran out are not reported as bad arguments
  pub starved_run : {T : Type 0} (words : Result T WordFault) → words ≡ Err WordFault.OutOfMemory →
      (named ≡ None → words ≡ Err WordFault.Bad) → SameSource → SameSink →
      RunsCommand forms named Status.NoMemory (flow rest rest misread misread SameSource)
      (flow old old miswritten miswritten SameSink) SameSink
  starved_run words starved bad same kept = record {
    bad_words = (
      λ is. absurd (cc),
      λ none. let never : Err WordFault.OutOfMemory ≡ Err WordFault.Bad = sym starved ∙ bad none in absurd (cc),
    );
    untouched = λ is. absurd (cc);
    exact = λ job bytes held reply also told was required reads writes. inl refl;
    clean = λ width script bytes held plan span workers fingers paging traffic limits header samples
        also told was file enough clean reads writes. inl refl;
    all_distinct = λ width script bytes held plan span workers fingers paging traffic limits header
        samples also told was file enough clean free follows reads writes. inl refl;
    complete = λ job also well writes. inl refl;
    kind = λ job also. job_starves job;
    verdict = λ job also told. absurd told;
    read_fault = λ is. absurd (cc);
    write_fault = λ job also is. absurd (cc);
    memory = λ job also is. (kept, inl same);
    unread = λ job also idle. same;
    trial = λ number workers also is. absurd (cc);
    at_end = λ job also reads end. absurd end;
    early = λ fault. absurd fault;
    header = λ fault is. absurd (cc);
    bound = λ job also. unread_most job rest;
    written = λ job also. record { text = []; written = Appends-nil old; part = inl refl };
    cut = λ job also cut. absurd cut;
    long = λ job also long. absurd long;
    later_source = omega arith;
    later_sink = omega arith;
  }
