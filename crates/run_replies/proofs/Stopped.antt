-- Lemmas on runs over a sample file that end by a fault, before its first samples were read or after them.
use Rattle.run_replies.proofs.Common.{Flow, flow}
use Rattle.run_replies.proofs.Common.{◌≡◌, ◌≢◌, ℕ, ◌≤◌, List, [], Option, IfSome, Result, Err, inl, refl, sym, subst, arith, Appends-nil}
use Rattle.run_replies.proofs.Common.{ConsumesAtMost, FileFault, ReadFault, KeptTap, Job, Status, file_status, IsCut, IsLong, Rose}
use Rattle.run_replies.proofs.Common.{IsFault, IsFaultIn, IsOfFiles, WritesNoMore, IsUnopened, TakesFew, WritesAll, WritesFirst}
use Rattle.run_replies.proofs.Common.{BeginsFile, IsHeaderFault, TakesNoMore, ReceivesFile, span_of}
use Rattle.run_replies.proofs.CutFiles.{nothing_all, nothing_first}
use Rattle.run_replies.proofs.Ends.{by_file_status, fault_no_end}
use Rattle.run_replies.proofs.Files.{blamed, unsearchable}
use Rattle.run_ends.specs.declared.status.Status.TheVariants as ends

-- a fault is none of arguments and scripts
fault_of_files : (status : Status) → IsFault status → IsOfFiles status
fault_of_files ends.BadWords faulty = faulty
fault_of_files (ends.BadScript fault) faulty = faulty
fault_of_files status faulty = tt

-- a run that ends by a fault of the file
abbrev ends_by : FileFault → Result (Unit {0}) Status
ends_by e = Err (file_status e)

blames : (e fault : FileFault) → file_status e ≡ Status.BadFile fault →
    (e ≡ fault) × (fault ≢ ReadFault) × (e ≢ ReadFault)
blames e fault is = blamed (ends_by e) e fault refl is

reads_ill : (e : FileFault) → file_status e ≡ Status.ReadFault → e ≡ ReadFault
reads_ill ReadFault is = refl
reads_ill e is = absurd (cc)

-- a failed write is no fault of the file, and no failed read
pub lost_not_bad : (fault : FileFault) → ¬ (Status.WriteFault ≡ Status.BadFile fault)
lost_not_bad fault is = cc

pub lost_not_misread : ¬ (Status.WriteFault ≡ Status.ReadFault)
lost_not_misread is = cc

lost_none : (e : FileFault) → ¬ (file_status e ≡ Status.WriteFault)
lost_none e =
    by_file_status (λ (s : Status). ¬ (s ≡ Status.WriteFault)) e (λ (r : Status.ReadFault ≡ Status.WriteFault). cc)
    (λ (r : Status.BadFile e ≡ Status.WriteFault). cc)

module _ {taps : List KeptTap} {job : Job} {source : Flow} {old : Option (List ℕ)} {miswritten : ℕ} {SameSink : Type 0} where
  -- the file doesn't open, or its first samples aren't there
  pub unread_file : (e : FileFault) (count : ℕ) → count ≡ span_of job → SameSink →
      (e ≢ ReadFault → IfSome source.before (λ bytes. IsFaultIn count bytes e)) →
      (e ≡ ReadFault → Rose source.faults source.faults_after) → (IsHeaderFault e → ConsumesAtMost 16 source.before source.after) →
      TakesNoMore source.before source.after → TakesFew count source.before source.after →
      (IsLong (file_status e) → IsUnopened source.before) → source.faults ≤ source.faults_after →
      ReceivesFile taps job (file_status e) source (flow old old miswritten miswritten SameSink)
  unread_file e count same kept place failed alone bound few long later =
      let status = file_status e in
      let faulty = by_file_status IsFault e tt tt in
      let at : (fault : FileFault) → status ≡ Status.BadFile fault →
      IfSome source.before (λ bytes. IsFaultIn (span_of job) bytes fault) =
      λ fault is.
      let b = blames e fault is in
      subst (λ (n : ℕ). IfSome source.before (λ (bytes : List ℕ). IsFaultIn n bytes fault)) same
      (subst (λ (f : FileFault). IfSome source.before (λ (bytes : List ℕ). IsFaultIn count bytes f)) b.0 (place b.2)) in
      record {
        done = λ end. absurd (fault_no_end status faulty end);
        at_end = λ end. absurd (fault_no_end status faulty end);
        others = fault_of_files status faulty;
        memory = λ none. absurd (subst IsFault none faulty);
        early = λ none. absurd (subst IsFault none faulty);
        alone = λ unheard unset. absurd (subst IsFault unset faulty);
        bad_file = λ fault is. ((blames e fault is).1, unsearchable source.before (span_of job) fault (at fault is));
        place = at;
        read_fault = λ is. failed (reads_ill e is);
        write_fault = λ lost. absurd (lost_none e lost);
        begun = λ lost. absurd (lost_none e lost);
        header = λ fault is early. kept;
        header_alone = λ fault is early. alone (subst IsHeaderFault (sym (blames e fault is).0) early);
        bound = bound;
        written = record { text = []; written = Appends-nil old; part = inl refl };
        cut = λ cut. nothing_first taps count job source.before source.after old old same few;
        long = λ is. nothing_all taps job source.before old old (long is);
        later_source = later;
        later_sink = omega arith;
      }

module _ {taps : List KeptTap} {job : Job} {source sink : Flow} where
  -- the samples after the first ones aren't heard to the end of the file
  pub stopped_file : (status : Status) → IsFault status → IfSome source.before (BeginsFile (span_of job)) →
      ((fault : FileFault) → status ≡ Status.BadFile fault →
      (fault ≢ ReadFault) × IfSome source.before (λ bytes. IsFaultIn (span_of job) bytes fault)) →
      (status ≡ Status.ReadFault → Rose source.faults source.faults_after) →
      (status ≡ Status.WriteFault → Rose sink.faults sink.faults_after) →
      ((fault : FileFault) → status ≡ Status.BadFile fault → ¬ (IsHeaderFault fault)) →
      TakesNoMore source.before source.after → WritesNoMore taps job source.before source.after sink.before sink.after →
      (IsCut status → WritesFirst taps job source.before source.after sink.before sink.after) →
      (IsLong status → WritesAll taps job source.before sink.before sink.after) → source.faults ≤ source.faults_after →
      sink.faults ≤ sink.faults_after →
      ReceivesFile taps job status source sink
  stopped_file status faulty begun blame failed lost later_fault bound written cut long later
      later_sink = record {
        done = λ end. absurd (fault_no_end status faulty end);
        at_end = λ end. absurd (fault_no_end status faulty end);
        others = fault_of_files status faulty;
        memory = λ none. absurd (subst IsFault none faulty);
        early = λ none. absurd (subst IsFault none faulty);
        alone = λ unheard unset. absurd (subst IsFault unset faulty);
        bad_file = λ fault is.
            let b = blame fault is in (b.0, unsearchable source.before (span_of job) fault b.1);
        place = λ fault is. (blame fault is).1;
        read_fault = failed;
        write_fault = lost;
        begun = λ is. begun;
        header = λ fault is early. absurd (later_fault fault is early);
        header_alone = λ fault is early. absurd (later_fault fault is early);
        bound = bound;
        written = written;
        cut = cut;
        long = long;
        later_source = later;
        later_sink = later_sink;
      }
