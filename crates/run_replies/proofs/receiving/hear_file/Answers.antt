use Rattle.run_replies.proofs.Common.{◌≡◌, ◌≤◌, ◌-◌, ℕ, List, [], Option, IfSome, length, ap, refl, ◌∙◌, subst, arith, FileFault, Job}
use Rattle.run_replies.proofs.Common.{IsCut, IsEnd, IsFaultIn, IsLong, IsOfFiles, Listening, Sample, Status, TakesSpan, end_when, listening}
use Rattle.run_replies.proofs.Common.{span_of}
use Rattle.run_replies.proofs.Bounds.{none_most, rest_most}
use Rattle.run_replies.proofs.Broken.{writes_all, writes_first}
use Rattle.run_replies.proofs.Ends.{begins_file, by_end, ends_well, lost_file}
use Rattle.run_replies.proofs.Faults.{fault_of_rest}
use Rattle.run_ends.proofs.Ends.{ended_by}
use Rattle.run_replies.proofs.Runs.{rose_before}
use Rattle.run_replies.proofs.Stopped.{stopped_file}
use Rattle.run_replies.proofs.WrittenTexts.{HasBegun, has_begun, writes_first_part, writes_first_text, writes_rest_part, writes_text}
use Rattle.run_replies.proofs.receiving.hear_file.Given.{Over}
use Rattle.run_replies.proofs.receiving.hear_file.Goals.{In-Ok}
use Rattle.run_replies.proofs.receiving.hear_file.Goals as goal

-- the text that comes before any sample, or that of the first ones, can't be written
pub returns-in-Err : goal.returns-in-Err
returns-in-Err g c job before faults t fresh later =
    lost_file (begins_file _ _ refl t) c.in-Err.ensures.cause.failed (rest_most t (none_most _ _))
    (writes_first_text t (λ heard. c.in-Err.ensures.err _ heard fresh))
    later c.begin.ensures.cause.later

-- the text that comes before any sample was written
begun_of : (g : Over) (c : In-Ok g) (job : Job) (before : Option (List ℕ)) →
    TakesSpan (span_of job) c.args.reader.header c.args.first.now c.args.reader.left before
    (g.S.Source.rest c.args.source.now) →
    g.L.FileListener.fresh (listening (g.T.KeepsTaps.kept c.args.taps.now) job c.args.reader.header c.args.first.now)
    c.args.listener.now (g.T.KeepsTaps.kept c.args.taps.now) →
    HasBegun g.L.FileListener.hearing (g.T.KeepsTaps.kept c.args.taps.now) job c.args.reader.header c.args.first.now
    c.begin.new.self (g.T.KeepsTaps.kept c.begin.new.taps) before (g.S.Source.rest c.args.source.now)
    (g.K.Sink.written c.args.sink.now) (g.K.Sink.written c.begin.new.sink)
begun_of g c job before t fresh = has_begun t (c.in-Ok.ensures.ok _ fresh)

pub returns-in-Err-hear : goal.returns-in-Err-hear
returns-in-Err-hear g c job before faults t fresh later =
    let begun = begun_of g (goal.at.returns-in-Err-hear g c).In-Ok job before t fresh in
    lost_file (begins_file _ _ refl t)
    (rose_before _ _ _ c.begin.ensures.cause.later c.in-Err-hear.ensures.cause.failed)
    (rest_most t (none_most _ _)) (writes_first_part begun c.in-Err-hear.ensures.err)
    later (omega (arith, c.begin.ensures.cause.later, c.hear.ensures.cause.later))

-- the others aren't heard to the end of the file
pub returns-in_err-hear_rest : goal.returns-in_err-hear_rest
returns-in_err-hear_rest g c job before faults t fresh later =
    let first = c.args.first.now in
    let reader = c.args.reader in
    let told = c.in_err-hear_rest.ensures in
    let begun = begun_of g (goal.at.returns-in_err-hear_rest g c).In-Ok job before t fresh in
    let wrote : g.K.Sink.faults c.args.sink.now ≤ g.K.Sink.faults c.hear.new.sink =
    omega (arith, c.begin.ensures.cause.later, c.hear.ensures.cause.later) in
    let place : (fault : FileFault) → c.in_err-hear_rest.field-0.0 ≡ Status.BadFile fault →
    IfSome before (λ bytes. IsFaultIn (span_of job) bytes fault) =
    λ fault blames.
    subst (λ (n : ℕ). IfSome before (λ (bytes : List ℕ). IsFaultIn n bytes fault)) begun.counted
    (fault_of_rest fault before _ reader first begun.lawful (omega (arith, t.left, t.counted)) begun.consumed
    (told.place fault blames)) in
    rw (ended_by c.from_residual.result c.in_err-hear_rest.field-0.0 c.from_residual.ensures.1)
    (stopped_file c.in_err-hear_rest.field-0.0 told.others (begins_file _ _ refl t)
    (λ fault blames. ((told.fault fault blames).0, place fault blames))
    (λ failed. rose_before _ _ _ later (told.read_fault failed))
    (λ lost. rose_before _ _ _ wrote (told.write_fault lost)) told.sample_fault
    (rest_most t c.hear_rest.ensures.bound)
    (writes_rest_part t.left begun c.in-Ok-hear.ensures.ok told.written)
    (λ cut. writes_first before _ _ _ _ begun.lawful t.left begun c.in-Ok-hear.ensures.ok (told.cut cut))
    (λ long. writes_all before _ _ _ _ begun.lawful t.left begun c.in-Ok-hear.ensures.ok (told.long long))
    (omega (arith, later, c.hear_rest.ensures.later_source))
    (omega (arith, wrote, c.hear_rest.ensures.later_sink)))

-- all samples are heard
pub returns : goal.returns
returns g c job before faults t fresh later =
    let reader = c.args.reader in
    let told = c.in_ok-hear_rest.ensures in
    let end = c.end_when.ensures.ends in
    let begun = begun_of g (goal.at.returns g c).In-Ok job before t fresh in
    let l = listening (g.T.KeepsTaps.kept c.args.taps.now) job reader.header c.args.first.now in
    let first = c.in-Ok-hear.ensures.ok l [] begun.listens in
    let last = told.ok l _ first.listens in
    record {
      done = λ ends. writes_text before _ _ begun.lawful t.left begun.in_range begun c.in-Ok-hear.ensures.ok
          told.ok told.ends
          (λ (l : Listening) (heard : List Sample)
          (is : g.L.FileListener.hearing l c.hear_rest.new.listener (g.T.KeepsTaps.kept c.hear_rest.new.taps) heard).
          c.end_when.ensures.value ∙ ap end_when (c.is_told.ensures l _ heard is));
      at_end = λ ends. told.ends;
      others = by_end IsOfFiles _ end tt tt;
      memory = λ none. absurd (subst IsEnd none end);
      early = λ none. absurd (subst IsEnd none end);
      alone = λ unheard. ends_well _ job reader.header c.args.first.now _ _ c.end_when.result
          unheard c.end_when.ensures.value (c.is_told.ensures l _ _ last.tells.listens);
      bad_file = λ fault blames. absurd (subst IsEnd blames end);
      place = λ fault blames. absurd (subst IsEnd blames end);
      read_fault = λ failed. absurd (subst IsEnd failed end);
      write_fault = λ lost. absurd (subst IsEnd lost end);
      begun = λ lost. absurd (subst IsEnd lost end);
      header = λ fault blames. absurd (subst IsEnd blames end);
      header_alone = λ fault blames. absurd (subst IsEnd blames end);
      bound = rest_most t c.hear_rest.ensures.bound;
      written = writes_rest_part t.left begun c.in-Ok-hear.ensures.ok told.written;
      cut = λ cut. absurd (by_end (λ (s : Status). ¬ (IsCut s)) _ end (λ x. x) (λ x. x) cut);
      long = λ long. absurd (by_end (λ (s : Status). ¬ (IsLong s)) _ end (λ x. x) (λ x. x) long);
      later_source = omega (arith, later, c.hear_rest.ensures.later_source);
      later_sink = omega (
        arith,
        c.begin.ensures.cause.later,
        c.hear.ensures.cause.later,
        c.hear_rest.ensures.later_sink,
      );
    }

-- what is called is given what it requires

pub begin-requires-clause-tellable : goal.begin-requires-clause-tellable
begin-requires-clause-tellable g c = c.requires.tellable

pub begin-requires-clause-kept : goal.begin-requires-clause-kept
begin-requires-clause-kept g c = c.requires.kept

pub hear-requires-clause-room : goal.hear-requires-clause-room
hear-requires-clause-room g c =
    g.met.L.FileListener.fewer c.begin.new.self c.args.reader.header.count (length c.args.first.now)
    (c.begin.ensures.room c.args.reader.header.count c.requires.room) (omega (arith, c.requires.counted))

pub hear-requires-clause-kept : goal.hear-requires-clause-kept
hear-requires-clause-kept g c = c.begin.ensures.kept

pub hear_rest-requires-clause-piece : goal.hear_rest-requires-clause-piece
hear_rest-requires-clause-piece g c = c.requires.piece

pub hear_rest-requires-clause-good : goal.hear_rest-requires-clause-good
hear_rest-requires-clause-good g c = c.requires.good

pub hear_rest-requires-clause-counted : goal.hear_rest-requires-clause-counted
hear_rest-requires-clause-counted g c = omega (arith, c.requires.counted)

pub hear_rest-requires-clause-room : goal.hear_rest-requires-clause-room
hear_rest-requires-clause-room g c =
    let left : c.args.reader.header.count - length c.args.first.now ≡ c.args.reader.left =
    omega (arith, c.requires.counted) in
    subst (λ (n : ℕ). g.L.FileListener.has_room c.hear.new.self n) left
    (c.in-Ok-hear.ensures.room c.args.reader.header.count
    (c.begin.ensures.room c.args.reader.header.count c.requires.room))

pub hear_rest-requires-clause-kept : goal.hear_rest-requires-clause-kept
hear_rest-requires-clause-kept g c = c.hear.ensures.kept
