-- Lemmas on runs of the program: one whose output was then passed on, and with taps of each form.
use Rattle.run_replies.proofs.Common.{Flow, flow}
use Rattle.run_replies.proofs.Common.{◌≡◌, ℕ, ◌≤◌, ◌++◌, ◌⊎◌, inl, inr, List, [], ◌∷◌, refl, sym, ap, subst, arith, map, take, Option, ◌↔◌}
use Rattle.run_replies.proofs.Common.{Bool, true, false, None, Some, IfSome, IsOk, Result, Ok, Err, OnOk, OnErr, Appends, Appends-kept}
use Rattle.run_replies.proofs.Common.{Rose, Sample, IsSampleFile, FileFault, Header, flat_map, header_spelling, sample_spelling, width_of}
use Rattle.run_replies.proofs.Common.{length-take-le, take-append-drop, flat_map-append, append_assoc, drop, Keeps, BeginsFile, ◌∙◌, Job}
use Rattle.run_replies.proofs.Common.{front_begins, KeptTap, Status, Make, Trial, Follow, HasWritten, IsEnd, Answers}
use Rattle.run_replies.proofs.Common.{IsHeaderFault, AnswersAfter, Begins, IsAnswered, IsEarlyFault, IsReply, IsVerdict}
use Rattle.run_replies.proofs.Common.{Reply, GainsNothingOr, MayHold, IsPassedOn, PassesOn, RunsCommand, each_form, IsPromising}
use Rattle.run_replies.proofs.Common.{WritesWhole, WritesTaken, WritesEach, kept_by, TellsEnd, AppendsPrefix, HasCause}
use Rattle.run_replies.proofs.Common.{end_line, length, take_all, clean_end, clean_events, run_text}
use Rattle.std.specs.Bool.{IsTrue}
use Rattle.run_replies.proofs.Commands.{write_fault_end}
use Rattle.run_replies.proofs.Ends.{by_end}
use Rattle.cdma_io.specs.declared.file_fault.FileFault.TheVariants as file

-- ---- what was written stays

-- known bytes that grew are known, and stay
known_kept : (old mid new : Option (List ℕ)) (held text : List ℕ) → old ≡ Some held →
    Appends old mid text → Keeps mid new → mid ≡ new
known_kept None mid new held text was grew kept = absurd (cc)
known_kept (Some xs) None new held text was grew kept = absurd grew
known_kept (Some xs) (Some ys) None held text was grew kept = absurd kept
known_kept (Some xs) (Some ys) (Some zs) held text was grew kept = ap (λ (all : List ℕ). Some all) (sym kept)

answers_kept : (reply : Reply) (status : Status) (old mid new : Option (List ℕ)) →
    Answers reply status old mid → Keeps mid new → Answers reply status old new
answers_kept (Ok whole) status old mid new answers kept = (answers.0, Appends-kept old mid new whole.0 answers.1 kept)
answers_kept (Err end) status old mid new answers kept = answers

verdict_kept : (asks : List ℕ → Reply → Type 0) (status : Status) (rest old mid new : Option (List ℕ)) →
    IfSome rest (λ bytes. IsAnswered (asks bytes) status old mid) → Keeps mid new →
    IfSome rest (λ bytes. IsAnswered (asks bytes) status old new)
verdict_kept asks status None old mid new answered kept = tt
verdict_kept asks status (Some bytes) old mid new answered kept = record {
  reply = answered.reply;
  required = answered.required;
  answers = answers_kept answered.reply status old mid new answered.answers kept;
}

part_kept : (begins : List ℕ → Type 0) (old mid new : Option (List ℕ)) →
    GainsNothingOr begins old mid → Keeps mid new → GainsNothingOr begins old new
part_kept begins old mid new wrote kept = record {
  text = wrote.text;
  written = Appends-kept old mid new wrote.text wrote.written kept;
  part = wrote.part;
}

samples_kept : {taps : List KeptTap} {job : Job} {header : Header} {bytes : List ℕ}
    {counted : ℕ → Type 0} (old mid new : Option (List ℕ)) →
    HasWritten taps job header bytes counted old mid → Keeps mid new → HasWritten taps job header bytes counted old new
samples_kept old mid new wrote kept = record {
  samples = wrote.samples;
  lawful = wrote.lawful;
  enough = wrote.enough;
  most = wrote.most;
  number = wrote.number;
  in_range = wrote.in_range;
  first = wrote.first;
  written = Appends-kept old mid new _ wrote.written kept;
}

first_kept : (forms : List ℕ) (job : Job) {Still Now : Type 0} (rest left old mid new : Option (List ℕ)) →
    (Still → Now) → WritesTaken forms job Still rest left old mid → Keeps mid new →
    WritesTaken forms job Now rest left old new
first_kept forms (Make width) rest left old mid new grows first kept = grows first
first_kept forms (Trial number workers) rest left old mid new grows first kept = tt
first_kept forms job None left old mid new grows first kept = tt
first_kept forms job (Some bytes) left old mid new grows first kept =
    λ header taken n opened consumed long enough some.
    samples_kept old mid new (first header taken n opened consumed long enough some) kept

all_kept : (forms : List ℕ) (job : Job) (rest old mid new : Option (List ℕ)) →
    WritesWhole forms job rest old mid → Keeps mid new → WritesWhole forms job rest old new
all_kept forms (Make width) rest old mid new all kept = tt
all_kept forms (Trial number workers) rest old mid new all kept = tt
all_kept forms job None old mid new all kept = tt
all_kept forms job (Some bytes) old mid new all kept =
    λ header opened. samples_kept old mid new (all header opened) kept

-- ---- a good end comes of a good beginning

-- A whole sample file of at least `span` samples has a good beginning: its bytes are those of a
-- lawful header and of its first `span` samples, followed by those of the other samples.
file_begins : {span : ℕ} {bytes : List ℕ} {header : Header} {samples : List Sample} →
    IsSampleFile bytes header samples → span ≤ length samples → BeginsFile span bytes
file_begins {span} {bytes} {header} {samples} file enough =
    let spelled = sample_spelling (width_of header) in
    let front = header_spelling header in
    let parted : flat_map spelled samples ≡
    flat_map spelled (take span samples) ++ flat_map spelled (drop span samples) =
    ap (flat_map spelled) (sym (take-append-drop span samples)) ∙
    flat_map-append spelled (take span samples) (drop span samples) in
    record {
      header = header;
      samples = take span samples;
      lawful = file.lawful;
      enough = omega (arith, enough, file.counted);
      counted = length-take-le span samples enough;
      begins = front_begins bytes (front ++ flat_map spelled (take span samples)) (flat_map spelled (drop span samples))
          (file.spelled ∙ ap (λ (t : List ℕ). front ++ t) parted ∙
          sym (append_assoc front (flat_map spelled (take span samples))
          (flat_map spelled (drop span samples))));
    }

required_end : (forms : List ℕ) (job : Job) (bytes : List ℕ) (reply : Reply) (status : Status)
    (old new : Option (List ℕ)) → IsReply forms job bytes reply →
    Answers reply status old new → IsEnd status → IsPromising job bytes
required_end forms (Make width) bytes (Ok whole) status old new required answers end =
    subst (λ (r : Result _ _). IsOk r) (sym required.named) refl
required_end forms (Make width) bytes (Err fault) status old new required answers end =
    absurd (subst IsEnd (answers ∙ required.end_is) end)
required_end forms (Trial number workers) bytes reply status old new required answers end = tt
required_end forms job bytes (Ok whole) status old new required answers end = file_begins required.file required.enough
required_end forms job bytes (Err fault) status old new required answers end =
    absurd (subst IsEnd (answers ∙ required.end_is) end)

promising : (forms : List ℕ) (job : Job) (status : Status) (rest old new : Option (List ℕ)) →
    IsEnd status → IfSome rest (λ bytes. IsAnswered (IsReply forms job bytes) status old new) →
    IfSome rest (IsPromising job)
promising forms job status None old new end answered = tt
promising forms job status (Some bytes) old new end answered =
    required_end forms job bytes answered.reply status old new answered.required answered.answers end

-- ---- ends after which nothing is held

header_left : (fault : FileFault) → IsHeaderFault fault → ¬ (MayHold (Status.BadFile fault))
header_left (file.Short place) early held = early
header_left (file.Extra place) early held = early
header_left fault early held = held

early_left : (status : Status) → IsEarlyFault status → ¬ (MayHold status)
early_left (Status.BadFile fault) early held = header_left fault early held
early_left (Status.BadScript fault) early held = held
early_left status early held = early

-- ---- counts

rose_later : (old mid new : ℕ) → Rose old mid → mid ≤ new → Rose old new
rose_later old mid new rose later = omega (arith, rose, later)

pub rose_before : (old mid new : ℕ) → old ≤ mid → Rose mid new → Rose old new
rose_before old mid new later rose = omega (arith, rose, later)

-- ---- what is passed on after a run

module _ {forms : List ℕ} {named : Option Job} {source : Flow} {old mid new : Option (List ℕ)}
    {miswritten between miswritten_now : ℕ}
    {StillSink SamePassed SameSink Unwritten : Type 0} {before : Status}
    (run : RunsCommand forms named before source (flow old mid miswritten between StillSink) Unwritten) (both : StillSink → SamePassed →
    SameSink)
    (unwritten : Unwritten → mid ≡ old) where
  -- a run that ends so after it too
  kept_run : (¬ (MayHold before) → SamePassed) → Keeps mid new → between ≤ miswritten_now →
      RunsCommand forms named before source (flow old new miswritten miswritten_now SameSink) (Keeps old new)
  kept_run still kept later =
      let same : (other : Status) → before ≡ other → ¬ (MayHold other) → StillSink → SameSink =
      λ other is not sink. both sink (still (λ held. not (subst MayHold is held))) in
      let went = λ (writes : ¬ (Rose miswritten miswritten_now)) (fell : Rose miswritten between).
      writes (rose_later miswritten between miswritten_now fell later) in
      let known = λ (job : Job) (held : List ℕ) (is : named ≡ Some job) (was : old ≡ Some held).
      known_kept old mid new held (run.written job is).text was (run.written job is).written kept in
      record {
        bad_words = run.bad_words;
        untouched = λ is.
            ((run.untouched is).0, same Status.BadWords is (λ held. held) (run.untouched is).1);
        exact = λ job bytes held reply is told was required reads writes.
            subst
            (λ (k : Option (List ℕ)).
            (before ≡ Status.NoMemory) ⊎ AnswersAfter held reply before k) (known job held is was)
            (run.exact job bytes held reply is told was required reads (went writes));
        clean = λ width script bytes held plan span workers fingers paging traffic limits header
            samples is told was file enough clean reads writes.
            subst
            (λ (k : Option (List ℕ)). (before ≡ Status.NoMemory) ⊎ ((before ≡ clean_end plan) ×
            WritesEach (kept_by limits forms) span plan paging traffic held k))
            (known (Follow span workers fingers paging traffic limits) held is was)
            (run.clean width script bytes held plan span workers fingers paging traffic limits header
            samples is told was file enough clean reads (went writes));
        all_distinct = λ width script bytes held plan span workers fingers paging traffic limits
            header samples is told was file enough clean free follows reads writes.
            subst
            (λ (k : Option (List ℕ)). (before ≡ Status.NoMemory) ⊎ ((before ≡ clean_end plan) ×
            (k ≡ Some (held ++
            run_text (kept_by limits forms) (clean_events span plan paging traffic)))))
            (known (Follow span workers fingers paging traffic limits) held is was)
            (run.all_distinct width script bytes held plan span workers fingers paging traffic limits
            header samples is told was file enough clean free follows reads (went writes));
        complete = λ job is well writes. run.complete job is well (went writes);
        kind = run.kind;
        verdict = λ job is verdict.
            verdict_kept (IsReply forms job) before source.before old mid new (run.verdict job is verdict)
            kept;
        read_fault = run.read_fault;
        write_fault = λ job is lost. (
          rose_later miswritten between miswritten_now (run.write_fault job is lost).0 later,
          (run.write_fault job is lost).1,
        );
        memory = λ job is none. (
          same Status.NoMemory none (λ held. held) (run.memory job is none).0,
          (run.memory job is none).1,
        );
        unread = run.unread;
        trial = λ number workers is done.
            Appends-kept old mid new _ (run.trial number workers is done) kept;
        at_end = run.at_end;
        early = λ early. both (run.early early) (still (early_left before early));
        header = run.header;
        bound = run.bound;
        written = λ job is. part_kept (Begins forms job source.before source.after) old mid new (run.written job is) kept;
        cut = λ job is cut.
            first_kept forms job source.before source.after old mid new
            (λ none. subst (λ (k : Option (List ℕ)). Keeps k new) (unwritten none) kept)
            (run.cut job is cut) kept;
        long = λ job is long. all_kept forms job source.before old mid new (run.long job is long) kept;
        later_source = run.later_source;
        later_sink = omega (arith, run.later_sink, later);
      }

  -- a good run of which it failed
  lost_run : IsEnd before → Keeps mid new → between ≤ miswritten_now → Rose between miswritten_now →
      RunsCommand forms named Status.WriteFault source (flow old new miswritten miswritten_now SameSink) (Keeps old new)
  lost_run end kept later rose =
      let fell = rose_before miswritten between miswritten_now run.later_sink rose in
      record {
        bad_words =
            (λ is. absurd (cc), λ none. absurd (subst IsEnd (run.bad_words.1 none) end));
        untouched = λ is. absurd (cc);
        exact = λ job bytes held reply is told was required reads writes. absurd (writes fell);
        clean = λ width script bytes held plan span workers fingers paging traffic limits header
            samples is told was file enough clean reads writes. absurd (writes fell);
        all_distinct = λ width script bytes held plan span workers fingers paging traffic limits
            header samples is told was file enough clean free follows reads writes.
            absurd (writes fell);
        complete = λ job is well writes. absurd (writes fell);
        kind = λ job is. write_fault_end job;
        verdict = λ job is verdict. absurd verdict;
        read_fault = λ is. absurd (cc);
        write_fault = λ job is lost. (
          fell,
          promising forms job before source.before old mid end
              (run.verdict job is (by_end IsVerdict before end tt tt)),
        );
        memory = λ job is none. absurd (cc);
        unread = run.unread;
        trial = λ number workers is done. absurd (cc);
        at_end = λ job is reads good. absurd good;
        early = λ early. absurd early;
        header = λ fault is. absurd (cc);
        bound = run.bound;
        written = λ job is. part_kept (Begins forms job source.before source.after) old mid new (run.written job is) kept;
        cut = λ job is cut. absurd cut;
        long = λ job is long. absurd long;
        later_source = run.later_source;
        later_sink = omega (arith, run.later_sink, later);
      }

  pub passed_run : {PassedOn : Type 0} {status : Status} →
      PassesOn before status (flow mid new between miswritten_now SamePassed) PassedOn →
      RunsCommand forms named status source (flow old new miswritten miswritten_now SameSink) (Keeps old new)
  passed_run {PassedOn} {status} passed =
      let Runs = λ (s : Status). RunsCommand forms named s source (flow old new miswritten miswritten_now SameSink) (Keeps old new) in
      elim passed.end [
        | inl same ↦ subst Runs (sym same) (kept_run passed.still passed.kept passed.later)
        | inr lost ↦ subst Runs (sym lost.0) (lost_run lost.1 passed.kept passed.later lost.2)
      ]

pub run_passed : {forms : List ℕ} {named : Option Job} {before status : Status}
    {source : Flow} {old mid new : Option (List ℕ)} {miswritten between miswritten_now : ℕ}
    {StillSink SamePassed Unwritten PassedOn : Type 0} →
    RunsCommand forms named before source (flow old mid miswritten between StillSink) Unwritten →
    PassesOn before status (flow mid new between miswritten_now SamePassed) PassedOn →
    IsPassedOn status (Rose miswritten miswritten_now) PassedOn
run_passed {forms} {named} {before} {status} {source} {old} {mid} {new} {miswritten} {between} {miswritten_now} run passed = record {
  good = λ end. (passed.good end).0;
  held = λ held writes.
      elim passed.end [
        | inl same ↦
            passed.passed_on (subst MayHold same held)
            (λ rose. writes (rose_before miswritten between miswritten_now run.later_sink rose))
        | inr lost ↦ absurd (subst MayHold lost.0 held)
      ];
}

-- ---- what is told of an end

module _ {SameErrors : Type 0} {old new : Option (List ℕ)} {miswritten miswritten_now : ℕ}
    {status : Status} (not : ¬ (status ≡ Status.Done)) where
  whole_told : Appends old new (end_line status) → miswritten ≤ miswritten_now →
      TellsEnd status (flow old new miswritten miswritten_now SameErrors)
  whole_told whole later = record {
    done = λ is. absurd (not is);
    line = λ writes. whole;
    part = record {
      count = length (end_line status);
      fits = omega arith;
      appended = subst (Appends old new)
          (sym (take_all (length (end_line status)) (end_line status) (omega arith))) whole;
    };
    later = later;
  }

  part_told : AppendsPrefix old new (end_line status) → Rose miswritten miswritten_now →
      miswritten ≤ miswritten_now → TellsEnd status (flow old new miswritten miswritten_now SameErrors)
  part_told part rose later = record {
    done = λ is. absurd (not is);
    line = λ writes. absurd (writes rose);
    part = part;
    later = later;
  }

  told_so : {T E : Type 0} (told : Result T E) → OnOk told (Appends old new (end_line status)) →
      OnErr told (AppendsPrefix old new (end_line status)) → HasCause miswritten miswritten_now told →
      TellsEnd status (flow old new miswritten miswritten_now SameErrors)
  told_so (Ok done) whole part cause = whole_told whole cause.later
  told_so (Err failed) whole part cause = part_told part cause.failed cause.later

not_done : {status : Status} (is : Bool) → is ≡ false → (IsTrue is ↔ (status ≡ Status.Done)) → ¬ (status ≡ Status.Done)
not_done is unset means done = let set : is ≡ true = means.1 done in absurd (cc)

-- a line was written, or the first of it
pub line_told : {T E SameErrors : Type 0} {old new : Option (List ℕ)} {miswritten miswritten_now : ℕ}
    {status : Status} (is : Bool) (told : Result T E) (bytes : List ℕ) → is ≡ false →
    (IsTrue is ↔ (status ≡ Status.Done)) → bytes ≡ end_line status →
    OnOk told (Appends old new bytes) → OnErr told (AppendsPrefix old new bytes) →
    HasCause miswritten miswritten_now told → TellsEnd status (flow old new miswritten miswritten_now SameErrors)
line_told {T} {E} {SameErrors} {old} {new} is told bytes unset means same whole part cause =
    told_so (not_done is unset means) told (subst (λ (line : List ℕ). OnOk told (Appends old new line)) same whole)
    (subst (λ (line : List ℕ). OnErr told (AppendsPrefix old new line)) same part) cause

-- ---- taps of each form

-- what each value after a vtable tells, after one that is the same
pub by_vtable : {X : Type 0} {F : X → Type 0} (form : (i : X) → F i → ℕ) (known i : X) (n : ℕ)
    (v : F i) → i ≡ known → ((w : F known) → form known w ≡ n) → form i v ≡ n
by_vtable {X} {F} form known i n v is told = subst (λ (j : X). (w : F j) → form j w ≡ n) (sym is) told v

pub four_forms : {T : Type 0} (form : T → ℕ) (none one two three four : List T) (a b c d : T) →
    none ≡ [] → one ≡ none ++ (a ∷ []) → two ≡ one ++ (b ∷ []) → three ≡ two ++ (c ∷ []) →
    four ≡ three ++ (d ∷ []) → form a ≡ 0 → form b ≡ 1 → form c ≡ 2 → form d ≡ 3 → map form four ≡ each_form
four_forms form none one two three four a b c d is_none is_one is_two is_three is_four of_a of_b of_c
    of_d = rw (is_four, is_three, is_two, is_one, is_none) (rw (of_a, of_b, of_c, of_d) refl)

pub run_with : {forms each : List ℕ} {named : Option Job} {status : Status}
    {source sink : Flow} {Unwritten : Type 0} → forms ≡ each →
    RunsCommand forms named status source sink Unwritten →
    RunsCommand each named status source sink Unwritten
run_with {forms} {each} {named} {status} {source} {sink} {Unwritten} same run =
    subst
    (λ (f : List ℕ). RunsCommand f named status source sink Unwritten) same run
