-- Lemmas on scripts that are read, and on files of cells that are written.
use Rattle.std.proofs.Common.{◌≡◌, ◌≢◌, ℕ, ◌+◌, ◌<◌, ◌≤◌, List, [], ◌++◌, length, map, take, drop, refl, sym, ap, ◌∙◌, subst, arith, inl, inr}
use Rattle.std.proofs.Common.{le_refl, Option, None, Some, IfSome, IsOk, Result, Ok}
use Rattle.std.proofs.KnownBytes.{Appends-trans}
use Rattle.std.proofs.Math.Seq.{take-add}
use Rattle.std.proofs.lemmas.Bool.{cases_lt}
use Rattle.std.proofs.lemmas.Grind.{flat_map-append}
use Rattle.std.proofs.lemmas.List.{append-nil, append_assoc, length-map, length-take-le, take-append-drop, take-append-le, take_all}
use Rattle.std.specs.Io.KnownBytes.{Appends, Consumes, IsAtEnd}
use Rattle.std.specs.List.{flat_map}
use Rattle.chip_core.proofs.Places.{length-map-places}
use Rattle.chip_core.specs.Complex.{of_sample}
use Rattle.chip_core.specs.declared.sample.Sample.{Sample}
use Rattle.chip_core.specs.declared.width.Width.{Width}
use Rattle.cdma_io.proofs.Prefixes.{prefix_after, prefix_before, prefix_of, taken_begins}
use Rattle.cdma_io.specs.Outside.{AppendsPrefix, ConsumesAtMost, Rose}
use Rattle.cdma_io.specs.SampleFile.{header_spelling, sample_spelling}
use Rattle.cdma_io.specs.declared.header.Header.{Header}
use Rattle.cell_plan.specs.Sampled.{sample_with}
unfoldable use Rattle.cell_plan.specs.Sampled.{made_samples}
use Rattle.cell_plan.specs.Signal.{sample_of}
unfoldable use Rattle.cell_plan.specs.Signal.{samples_of}
use Rattle.cell_plan.specs.Transmitter.{header_of}
use Rattle.cell_plan.specs.declared.plan.CellPlan.{CellPlan}
use Rattle.cell_script.proofs.ScriptAnswers.{too_big}
use Rattle.cell_script.specs.Script.{plan_named}
use Rattle.cell_script.specs.declared.script_fault.ScriptFault.{ScriptFault}
use Rattle.cell_script.specs.declared.script_fault.ScriptFault.TheVariants.{OutOfMemory}
use Rattle.run_ends.specs.Flows.{Flow}
use Rattle.run_ends.specs.Make.{MakesFile, WritesMadeFile, WritesNoMoreMade, piece_bytes, sample_bytes}
unfoldable use Rattle.run_ends.specs.Make.{made_file}
use Rattle.run_ends.specs.Status.{script_status}
use Rattle.base_modulator.proofs.GivenSamples.{next_made}
use Rattle.run_ends.specs.declared.status.Status.TheVariants as Status

-- ---- scripts

-- a script that names a cell isn't
named_is_short : (width : Width) (script : List ℕ) (plan : CellPlan) →
    plan_named width script ≡ Ok plan → length script < 1048577
named_is_short width script plan is =
    elim (cases_lt (length script) 1048577) [
      | inl below ↦ below
      | inr past ↦ let e = too_big width script (omega (arith, past)) in absurd (cc)
    ]

-- the first bytes of a script name what the script does, where one more than the most shows of it
pub named_by_front : (width : Width) (script : List ℕ) →
    plan_named width (take 1048577 script) ≡ plan_named width script
named_by_front width script =
    elim (cases_lt (length script) 1048577) [
      | inl below ↦ ap (plan_named width) (take_all 1048577 script (omega (arith, below)))
      | inr past ↦
          let long : length (take 1048577 script) ≡ 1048577 = length-take-le 1048577 script past in
          too_big width (take 1048577 script) (omega (arith, long)) ∙
          sym (too_big width script (omega (arith, past)))
    ]

-- bytes that were read up to that many, or to the end
read_front : (bytes rest buf : List ℕ) (n : ℕ) → length buf ≡ 1048577 → n ≤ length buf →
    bytes ≡ take n buf ++ rest → (n < length buf → rest ≡ []) → take n buf ≡ take 1048577 bytes
read_front bytes rest buf n room fits consumed ends =
    let long : length (take n buf) ≡ n = length-take-le n buf fits in
    elim (cases_lt n (length buf)) [
      | inl below ↦
          let all : bytes ≡ take n buf = consumed ∙
          ap (λ (xs : List ℕ). take n buf ++ xs) (ends below) ∙ append-nil (take n buf) in
          let short : length bytes ≤ 1048577 = omega (arith, ap length all, long, below, room) in
          sym all ∙ sym (take_all 1048577 bytes short)
      | inr past ↦
          let same : 1048577 ≡ length (take n buf) = omega (arith, long, past, fits, room) in
          sym (ap (take 1048577) consumed ∙ ap (λ (k : ℕ). take k (take n buf ++ rest)) same ∙
          take-append-le (length (take n buf)) (take n buf) rest (le_refl (length (take n buf))) ∙
          take_all (length (take n buf)) (take n buf) (le_refl (length (take n buf))))
    ]

-- they name what the whole script does
pub read_names : (width : Width) (old new : Option (List ℕ)) (buf : List ℕ) (n : ℕ) →
    length buf ≡ 1048577 → n ≤ length buf → Consumes old new (take n buf) → (n < length buf → IsAtEnd new) →
    IfSome old (λ bytes. plan_named width (take n buf) ≡ plan_named width bytes)
read_names width None new buf n room fits consumed ends = tt
read_names width (Some bytes) None buf n room fits consumed ends = absurd consumed
read_names width (Some bytes) (Some rest) buf n room fits consumed ends =
    ap (plan_named width) (read_front bytes rest buf n room fits consumed ends) ∙
    named_by_front width bytes

-- so they name a cell where it does, and have a fault where it has it
pub read_named : (width : Width) (old : Option (List ℕ)) (script : List ℕ) (named : Result CellPlan ScriptFault) →
    IfSome old (λ bytes. plan_named width script ≡ plan_named width bytes) →
    plan_named width script ≡ named → IfSome old (λ bytes. plan_named width bytes ≡ named)
read_named width None script named same is = tt
read_named width (Some bytes) script named same is = sym same ∙ is

pub read_lawful : (width : Width) (old : Option (List ℕ)) (script : List ℕ) →
    IfSome old (λ bytes. plan_named width script ≡ plan_named width bytes) →
    IsOk (plan_named width script) → IfSome old (λ bytes. IsOk (plan_named width bytes))
read_lawful width None script same ok = tt
read_lawful width (Some bytes) script same ok = subst IsOk same ok

-- a script that names a cell was read to its end
pub read_to_end : (width : Width) (new : Option (List ℕ)) (buf : List ℕ) (n : ℕ) (plan : CellPlan) →
    length buf ≡ 1048577 → n ≤ length buf → (n < length buf → IsAtEnd new) →
    plan_named width (take n buf) ≡ Ok plan → IsAtEnd new
read_to_end width new buf n plan room fits ends is =
    ends (omega (arith, room, length-take-le n buf fits, named_is_short width (take n buf) plan is))

-- a status that blames the script's bytes comes from a fault in them
pub bad_script_is : (e fault : ScriptFault) → script_status e ≡ Status.BadScript fault →
    (e ≡ fault) × (fault ≢ OutOfMemory)
bad_script_is OutOfMemory fault h = absurd (cc)
bad_script_is e fault h = (cc, λ (r : fault ≡ OutOfMemory). cc)

-- out of memory is not a fault of the script
pub memory_is : (e : ScriptFault) → script_status e ≡ Status.NoMemory → e ≡ OutOfMemory
memory_is OutOfMemory h = refl
memory_is e h = absurd (cc)

-- ---- samples

-- a piece of the samples that a cell gave
pub piece_spelled : (width : Width) (plan : CellPlan) (given n : ℕ) (out : List Sample) →
    map of_sample out ≡ take n (drop given (samples_of plan)) →
    flat_map (sample_spelling width) out ≡ piece_bytes width plan given n
piece_spelled width plan given n out is = ap (flat_map (sample_spelling width)) (next_made plan given n out is)

-- the bytes of the first samples of a cell
abbrev pub first_bytes : Width → CellPlan → ℕ → List ℕ
first_bytes width plan given = flat_map (sample_spelling width) (take given (made_samples plan))

first_more : (width : Width) (plan : CellPlan) (given n : ℕ) → first_bytes width plan (given + n) ≡
    first_bytes width plan given ++ piece_bytes width plan given n
first_more width plan given n =
    let all = made_samples plan in
    ap (flat_map (sample_spelling width)) (take-add given n all) ∙
    flat_map-append (sample_spelling width) (take given all) (take n (drop given all))

-- the bytes of its file so far
abbrev pub file_front : Width → CellPlan → ℕ → List ℕ
file_front width plan given = header_spelling (header_of width plan) ++ first_bytes width plan given

front_more : (width : Width) (plan : CellPlan) (given n : ℕ) →
    file_front width plan (given + n) ≡ file_front width plan given ++ piece_bytes width plan given n
front_more width plan given n =
    let header = header_spelling (header_of width plan) in
    ap (λ (bytes : List ℕ). header ++ bytes) (first_more width plan given n)
    ∙ sym (append_assoc header (first_bytes width plan given) (piece_bytes width plan given n))

-- all of them, and those after them
front_all : (width : Width) (plan : CellPlan) → file_front width plan plan.link.samples ≡ made_file width plan
unfolding made_file made_samples samples_of
front_all width plan =
    let long : length (made_samples plan) ≡ plan.link.samples =
    length-map (samples_of plan) sample_with ∙ length-map-places (sample_of plan) plan.link.samples in
    ap (λ (samples : List Sample).
    header_spelling (header_of width plan) ++ flat_map (sample_spelling width) samples)
    (take_all plan.link.samples (made_samples plan) (omega (arith, long)))

front_and_rest : (width : Width) (plan : CellPlan) (given : ℕ) → file_front width plan given
    ++ flat_map (sample_spelling width) (drop given (made_samples plan)) ≡ made_file width plan
unfolding made_file
front_and_rest width plan given =
    let all = made_samples plan in
    let header = header_spelling (header_of width plan) in
    append_assoc header (first_bytes width plan given) (flat_map (sample_spelling width) (drop given all))
    ∙ ap (λ (bytes : List ℕ). header ++ bytes)
    (sym (flat_map-append (sample_spelling width) (take given all) (drop given all))
    ∙ ap (flat_map (sample_spelling width)) (take-append-drop given all))

-- ---- what a sink took

-- the header was written
pub header_whole : (width now : Width) (plan : CellPlan) (given : ℕ) (header : Header)
    (bytes : List ℕ) (old new : Option (List ℕ)) → header ≡ header_of now plan → now ≡ width →
    bytes ≡ header_spelling header → given ≡ 0 → Appends old new bytes → Appends old new (file_front width plan given)
header_whole width now plan given header bytes old new is same spelled none written =
    subst (Appends old new)
    (spelled ∙ ap header_spelling (is ∙ ap (λ (w : Width). header_of w plan) same)
    ∙ sym (append-nil (header_spelling (header_of width plan)))
    ∙ ap (file_front width plan) (sym none)) written

-- or cut short
pub header_cut : (width now : Width) (plan : CellPlan) (header : Header) (bytes : List ℕ)
    (old new : Option (List ℕ)) → header ≡ header_of now plan → now ≡ width →
    bytes ≡ header_spelling header → AppendsPrefix old new bytes → AppendsPrefix old new (made_file width plan)
unfolding made_file
header_cut width now plan header bytes old new is same spelled part =
    prefix_before old new (header_spelling (header_of width plan)) (sample_bytes width plan)
    (subst (AppendsPrefix old new) (spelled ∙ ap header_spelling (is ∙ ap (λ (w : Width). header_of w plan) same)) part)

-- a piece more was written
pub piece_more : (width : Width) (plan now : CellPlan) (given n later : ℕ) (bytes : List ℕ)
    (old mid new : Option (List ℕ)) → now ≡ plan → later ≡ given + n →
    bytes ≡ piece_bytes width now given n → Appends old mid (file_front width plan given) →
    Appends mid new bytes → Appends old new (file_front width plan later)
piece_more width plan now given n later bytes old mid new same is spelled before more =
    let next : Appends mid new (piece_bytes width plan given n) =
    subst (Appends mid new) (spelled ∙ ap (λ (p : CellPlan). piece_bytes width p given n) same) more in
    subst (Appends old new) (sym (ap (file_front width plan) is ∙ front_more width plan given n))
    (Appends-trans old mid new (file_front width plan given) (piece_bytes width plan given n)
    before next)

-- a piece was cut short
pub piece_cut : (width : Width) (plan now : CellPlan) (given n : ℕ) (bytes : List ℕ)
    (old mid new : Option (List ℕ)) → now ≡ plan → bytes ≡ piece_bytes width now given n →
    Appends old mid (file_front width plan given) → AppendsPrefix mid new bytes →
    AppendsPrefix old new (made_file width plan)
piece_cut width plan now given n bytes old mid new same spelled before cut =
    let part : AppendsPrefix mid new (piece_bytes width plan given n) =
    subst (AppendsPrefix mid new) (spelled ∙ ap (λ (p : CellPlan). piece_bytes width p given n) same) cut in
    let written : AppendsPrefix old new (file_front width plan (given + n)) =
    subst (AppendsPrefix old new) (sym (front_more width plan given n))
    (prefix_after old mid new (file_front width plan given) (piece_bytes width plan given n)
    before part) in
    subst (AppendsPrefix old new) (front_and_rest width plan (given + n))
    (prefix_before old new (file_front width plan (given + n))
    (flat_map (sample_spelling width) (drop (given + n) (made_samples plan))) written)

-- all samples were written
pub pieces_all : (width : Width) (plan : CellPlan) (given : ℕ) (old new : Option (List ℕ)) →
    given ≡ plan.link.samples → Appends old new (file_front width plan given) → Appends old new (made_file width plan)
pieces_all width plan given old new done written =
    subst (Appends old new) (ap (file_front width plan) done ∙ front_all width plan) written

-- ---- what was written of the script's cell

pub writes_part : (width : Width) (plan : CellPlan) (rest old new : Option (List ℕ)) →
    IfSome rest (λ bytes. plan_named width bytes ≡ Ok plan) →
    AppendsPrefix old new (made_file width plan) → WritesNoMoreMade width rest old new
writes_part width plan rest old new is part = record {
  text = take part.count (made_file width plan);
  written = part.appended;
  part = inr (record { plan = plan; named = is; begins = taken_begins (made_file width plan) part.count part.fits });
}

pub writes_whole : (width : Width) (plan : CellPlan) (rest old new : Option (List ℕ)) →
    IfSome rest (λ bytes. plan_named width bytes ≡ Ok plan) →
    Appends old new (made_file width plan) → WritesNoMoreMade width rest old new
writes_whole width plan rest old new is all =
    let file = made_file width plan in
    writes_part width plan rest old new is (prefix_of old new file file all (take_all (length file) file (omega arith)))

-- ---- runs over a script that names a cell

module _ {width : Width} {source sink : Flow} where
  -- all of its file was written
  pub made_whole : IfSome source.before (λ bytes. WritesMadeFile width bytes sink.before sink.after) → IsAtEnd source.after →
      WritesNoMoreMade width source.before sink.before sink.after → ConsumesAtMost 1048577 source.before source.after →
      source.faults ≤ source.faults_after → sink.faults ≤ sink.faults_after →
      MakesFile width Status.Done source sink
  made_whole done ends written bound later later_sink = record {
    done = λ is. done;
    at_end = λ is. ends;
    others = (λ is. cc, λ is. cc, λ fault is. cc);
    memory = λ is. absurd (cc);
    early = λ is. absurd (cc);
    bad_script = λ fault is. absurd (cc);
    read_fault = λ is. absurd (cc);
    unwritten = λ is. absurd (cc);
    write_fault = λ is. absurd (cc);
    lawful = λ is. absurd (cc);
    written = written;
    bound = bound;
    later_source = later;
    later_sink = later_sink;
  }

  -- or a write failed
  pub made_part : Rose sink.faults sink.faults_after →
      IfSome source.before (λ bytes. IsOk (plan_named width bytes)) → WritesNoMoreMade width source.before sink.before sink.after →
      ConsumesAtMost 1048577 source.before source.after → source.faults ≤ source.faults_after → sink.faults ≤ sink.faults_after →
      MakesFile width Status.WriteFault source sink
  made_part lost lawful written bound later later_sink = record {
    done = λ is. absurd (cc);
    at_end = λ is. absurd (cc);
    others = (λ is. cc, λ is. cc, λ fault is. cc);
    memory = λ is. absurd (cc);
    early = λ is. absurd (cc);
    bad_script = λ fault is. absurd (cc);
    read_fault = λ is. absurd (cc);
    unwritten = λ is. absurd (cc);
    write_fault = λ is. lost;
    lawful = λ is. lawful;
    written = written;
    bound = bound;
    later_source = later;
    later_sink = later_sink;
  }
