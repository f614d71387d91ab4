-- Lemmas on runs that end before the file does, and on runs over a file that nobody hears.
use Rattle.run_replies.proofs.Common.{Flow, flow}
use Rattle.run_replies.proofs.Common.{◌≡◌, ℕ, ◌≤◌, ◌++◌, List, refl, ap, arith, ◌∙◌, true, Option, None, Some, IfSome, Result, ◌⊎◌, inl, inr}
use Rattle.run_replies.proofs.Common.{[], Bool, flat_map, Appends-nil, Sample, Rose, FileFault, ReadFault, Header, header_spelling, Status}
use Rattle.run_replies.proofs.Common.{sample_spelling, width_of, KeptTap, front_begins, Done, NoSync, BadFile, NoMemory, WriteFault, IsEnd}
use Rattle.run_replies.proofs.Common.{file_status, BeginsFile, IsFault, TakesNoMore, TakesSpan, WritesNoMore, ended, IsUnheard}
use Rattle.run_replies.proofs.Common.{end_when, is_told, listening, span_of, Follow, ReceivesFile, Job}

-- a status that comes of a fault of the file blames a read, or the file's bytes
pub by_file_status : (P : Status → Type 0) (fault : FileFault) → P Status.ReadFault →
    P (BadFile fault) → P (file_status fault)
by_file_status P ReadFault read bad = read
by_file_status P fault read bad = bad

-- a good end is one of two
pub by_end : (P : Status → Type 0) (status : Status) → IsEnd status → P Done → P NoSync → P status
by_end P Done end done unset = done
by_end P NoSync end done unset = unset
by_end P status end done unset = absurd end

-- and no fault
pub fault_no_end : (status : Status) → IsFault status → ¬ (IsEnd status)
fault_no_end status faulty end =
    by_end (λ (s : Status). ¬ (IsFault s)) status end (λ never. never) (λ never. never) faulty

-- a header and as many samples as the span is were read
pub begins_file : {header : Header} {samples : List Sample} {count left span : ℕ}
    (rest mid : Option (List ℕ)) → count ≡ span → TakesSpan count header samples left rest mid →
    IfSome rest (BeginsFile span)
begins_file None mid same t = tt
begins_file (Some bytes) None same t = absurd t.consumed
begins_file {header} {samples} (Some bytes) (Some after) same t = record {
  header = header;
  samples = samples;
  lawful = t.lawful;
  enough = omega (arith, same, t.left);
  counted = t.counted ∙ same;
  begins = front_begins bytes (header_spelling header ++ flat_map (sample_spelling (width_of header)) samples) after
      t.consumed;
}

-- how a run over a good file ends doesn't depend on the taps
pub told_alike : (taps : List KeptTap) (job : Job) (header : Header) (first samples : List Sample) →
    is_told (listening taps job header first) samples ≡ is_told (listening [] job header first) samples
told_alike taps (Follow span workers fingers paging traffic limits) header first samples = refl
told_alike taps job header first samples = refl

-- one over a file that nobody hears is done
pub ends_well : {T : Type 0} (taps : List KeptTap) (job : Job) (header : Header)
    (first heard : List Sample) (told : Bool) (r : Result T Status) → IsUnheard job →
    ended r ≡ end_when told → told ≡ is_told (listening taps job header first) heard → ¬ (ended r ≡ NoSync)
ends_well taps job header first heard told r unheard ends is never =
    let well : told ≡ true = is ∙ told_alike taps job header first heard ∙ unheard header first heard in
    let done : ended r ≡ end_when true = ends ∙ ap end_when well in
    cc

-- ---- runs that end before the file does

module _ {taps : List KeptTap} {job : Job} {source : Flow} {old : Option (List ℕ)} {miswritten : ℕ} {SameSink : Type 0} where
  -- memory ran out before anything was written
  pub starved_file : SameSink → source.Same ⊎ IfSome source.before (BeginsFile (span_of job)) →
      TakesNoMore source.before source.after → source.faults ≤ source.faults_after →
      ReceivesFile taps job NoMemory source (flow old old miswritten miswritten SameSink)
  starved_file kept begun bound later = record {
    done = λ end. absurd end;
    at_end = λ end. absurd end;
    others = tt;
    memory = λ is. kept;
    early = λ is. begun;
    alone = λ unheard is. absurd (cc);
    bad_file = λ fault is. absurd (cc);
    place = λ fault is. absurd (cc);
    read_fault = λ is. absurd (cc);
    write_fault = λ is. absurd (cc);
    begun = λ is. absurd (cc);
    header = λ fault is. absurd (cc);
    header_alone = λ fault is. absurd (cc);
    bound = bound;
    written = record { text = []; written = Appends-nil old; part = inl refl };
    cut = λ cut. absurd cut;
    long = λ long. absurd long;
    later_source = later;
    later_sink = omega arith;
  }

module _ {taps : List KeptTap} {job : Job} {source sink : Flow} where
  -- a write failed after a good beginning
  pub lost_file : IfSome source.before (BeginsFile (span_of job)) → Rose sink.faults sink.faults_after →
      TakesNoMore source.before source.after → WritesNoMore taps job source.before source.after sink.before sink.after →
      source.faults ≤ source.faults_after →
      sink.faults ≤ sink.faults_after →
      ReceivesFile taps job WriteFault source sink
  lost_file begun lost bound written later later_sink = record {
    done = λ end. absurd end;
    at_end = λ end. absurd end;
    others = tt;
    memory = λ is. absurd (cc);
    early = λ is. absurd (cc);
    alone = λ unheard is. absurd (cc);
    bad_file = λ fault is. absurd (cc);
    place = λ fault is. absurd (cc);
    read_fault = λ is. absurd (cc);
    write_fault = λ is. lost;
    begun = λ is. begun;
    header = λ fault is. absurd (cc);
    header_alone = λ fault is. absurd (cc);
    bound = bound;
    written = written;
    cut = λ cut. absurd cut;
    long = λ long. absurd long;
    later_source = later;
    later_sink = later_sink;
  }

-- a source that lost bytes since isn't as it was
or_else : {Same X : Type 0} → ⊥ ⊎ X → Same ⊎ X
or_else (inl never) = absurd never
or_else (inr holds) = inr holds

-- a run over the rest of a file ends one over the file
pub received_from : {taps : List KeptTap} {job : Job} {status : Status}
    {before after : Option (List ℕ)} {faults faults_after : ℕ} {Same : Type 0} {sink : Flow} →
    ReceivesFile taps job status (flow before after faults faults_after ⊥) sink →
    ReceivesFile taps job status (flow before after faults faults_after Same) sink
received_from r = record {
  done = r.done;
  at_end = r.at_end;
  others = r.others;
  memory = r.memory;
  early = λ none. or_else (r.early none);
  alone = r.alone;
  bad_file = r.bad_file;
  place = r.place;
  read_fault = r.read_fault;
  write_fault = r.write_fault;
  begun = r.begun;
  header = r.header;
  header_alone = r.header_alone;
  bound = r.bound;
  written = r.written;
  cut = r.cut;
  long = r.long;
  later_source = r.later_source;
  later_sink = r.later_sink;
}
