-- The text that is written of a file, and the file whose beginning it reports.
use Rattle.run_replies.proofs.Common.{IsHearing, ◌≡◌, ℕ, ◌+◌, ◌≤◌, ◌++◌, List, [], length, take, sym, ap, ◌∙◌, subst, arith, inr, append_assoc}
use Rattle.run_replies.proofs.Common.{append-nil, length-append, All, Option, None, Some, IfSome, take_at, flat_map-append, All-append}
use Rattle.run_replies.proofs.Common.{flat_map, StartsWith, Appends, Consumes, IsAtEnd, Appends-trans, Consumes-nil, Consumes-trans, Sample}
use Rattle.run_replies.proofs.Common.{Header, AppendsPrefix, HasBits, IsLawfulHeader, header_spelling, sample_spelling, width_of, KeptTap}
use Rattle.run_replies.proofs.Common.{prefix_of, taken_begins, Job, Status, TakesSpan, WritesNoMore, WritesText, BeginsAfter, LosesSamples}
use Rattle.run_replies.proofs.Common.{HearsRest, Listening, told, ListenerTells, GainsText, GainsPrefix, end_when, file_end_of, file_text}
use Rattle.run_replies.proofs.Common.{is_told, listening, span_of}
use Rattle.run_replies.proofs.Files.{none_within}
use Rattle.run_replies.proofs.Ends.{told_alike}
use Rattle.run_replies.proofs.GainedTexts.{more_after, part_after}

-- ---- the text of a file

-- the text of a file, whose first samples these are
text_of_first : (taps : List KeptTap) (job : Job) (header : Header)
    (samples others : List Sample) → length samples ≡ span_of job → file_text taps job header (samples ++ others)
    ≡ told (listening taps job header samples) (samples ++ others)
unfolding file_text
text_of_first taps job header samples others counted =
    ap (λ (xs : List Sample). told (listening taps job header xs) (samples ++ others))
    (take_at samples others (span_of job) counted)

end_after : (taps : List KeptTap) (job : Job) (header : Header)
    (samples others : List Sample) → length samples ≡ span_of job → file_end_of job header (samples ++ others)
    ≡ end_when (is_told (listening taps job header samples) (samples ++ others))
unfolding file_end_of
end_after taps job header samples others counted =
    ap (λ (xs : List Sample). end_when (is_told (listening [] job header xs) (samples ++ others)))
    (take_at samples others (span_of job) counted)
    ∙ ap end_when (sym (told_alike taps job header samples (samples ++ others)))

-- ---- beginnings

-- a header and samples, and then others, and then more bytes
parted : (front one other more : List ℕ) → (front ++ one) ++ (other ++ more) ≡ (front ++ (one ++ other)) ++ more
parted front one other more =
    append_assoc front one (other ++ more)
    ∙ ap (λ (xs : List ℕ). front ++ xs) (sym (append_assoc one other more))
    ∙ sym (append_assoc front (one ++ other) more)

-- a beginning of the text of the first samples and those after them was written
begins_text : {taps : List KeptTap} {job : Job} {rest left old new : Option (List ℕ)}
    (mid : Option (List ℕ)) (header : Header) (samples others : List Sample) (more : List ℕ) →
    length samples ≡ span_of job → IsLawfulHeader header → All (HasBits (width_of header)) samples →
    length samples + length others ≤ header.count → Consumes rest mid
    (header_spelling header ++ flat_map (sample_spelling (width_of header)) samples) →
    All (HasBits (width_of header)) others →
    Consumes mid left (flat_map (sample_spelling (width_of header)) others ++ more) → AppendsPrefix old new
    (told (listening taps job header samples) (samples ++ others)) → WritesNoMore taps job rest left old new
begins_text {taps} {job} {rest} {left} mid header samples others more counted lawful range fits consumed
    also following part =
    let spelled = flat_map (sample_spelling (width_of header)) in
    let front = header_spelling header in
    let text = told (listening taps job header samples) (samples ++ others) in
    record {
      text = take part.count text;
      written = part.appended;
      part = inr (record {
        header = header;
        samples = samples ++ others;
        more = more;
        lawful = lawful;
        counted = omega (arith, counted, length-append samples others);
        most = omega (arith, fits, length-append samples others);
        in_range = All-append (HasBits (width_of header)) samples others range also;
        taken = subst (Consumes rest left)
            (parted front (spelled samples) (spelled others) more
            ∙ ap (λ (xs : List ℕ). (front ++ xs) ++ more)
            (sym (flat_map-append (sample_spelling (width_of header)) samples others)))
            (Consumes-trans rest mid left (front ++ spelled samples) (spelled others ++ more) consumed
            following);
        begins = subst (λ (xs : List ℕ). StartsWith xs (take part.count text))
            (sym (text_of_first taps job header samples others counted))
            (taken_begins text part.count part.fits);
      });
    }

-- a beginning of the text of the first samples, and of what is told of them
pub writes_first_text : {taps : List KeptTap} {job : Job} {header : Header}
    {samples : List Sample} {left : ℕ} {rest mid old new : Option (List ℕ)} →
    TakesSpan (span_of job) header samples left rest mid →
    ((heard : List Sample) → AppendsPrefix old new (told (listening taps job header samples) heard)) →
    WritesNoMore taps job rest mid old new
writes_first_text {taps} {job} {header} {samples} {left} {rest} {mid} t part =
    begins_text mid header samples [] [] t.counted t.lawful t.in_range
    (omega (arith, t.counted, t.left)) t.consumed (none_within (width_of header)) (Consumes-nil mid)
    (part (samples ++ []))

-- ---- the first samples, and those after them

-- after what is told before any sample, a sink got what is told of samples, or a beginning of it
more_text : (l : Listening) {heard : List Sample} (old : Option (List ℕ))
    {between new : Option (List ℕ)} → Appends old between (told l []) →
    GainsText l [] heard between new → Appends old new (told l heard)
more_text l old {between} {new} line more =
    subst (Appends old new) more.all (Appends-trans old between new (told l []) more.text line more.written)

part_text : (l : Listening) {heard : List Sample} (old : Option (List ℕ))
    {between new : Option (List ℕ)} → Appends old between (told l []) →
    GainsPrefix l [] heard between new → AppendsPrefix old new (told l heard)
part_text l {heard} old {between} {new} line part =
    prefix_of old new (told l heard) (told l [] ++ part.text)
    (Appends-trans old between new (told l []) part.text line part.written) part.begins

-- the first samples were read, their text was written and what is told before any sample, and a
-- listener has heard nothing yet
pub record HasBegun {L : Type 0} (hearing : IsHearing L) (taps : List KeptTap) (job : Job) (header : Header) (samples : List Sample)
    (listener : L) (kept : List KeptTap) (rest mid old new : Option (List ℕ)) :
    Type 0 where
  pub counted : length samples ≡ span_of job
  pub lawful : IsLawfulHeader header
  pub in_range : All (HasBits (width_of header)) samples
  pub enough : span_of job ≤ header.count
  pub consumed : Consumes rest mid (header_spelling header ++ flat_map (sample_spelling (width_of header)) samples)
  pub line : Appends old new (told (listening taps job header samples) [])
  pub listens : hearing (listening taps job header samples) listener kept []

module _ {L : Type 0} {hearing : IsHearing L} where
  -- from the new listener
  pub has_begun : {taps : List KeptTap} {job : Job} {header : Header}
      {samples : List Sample} {left : ℕ} {listener : L} {kept : List KeptTap}
      {rest mid old new : Option (List ℕ)} → TakesSpan (span_of job) header samples left rest mid →
      BeginsAfter hearing (listening taps job header samples) listener kept old new →
      HasBegun hearing taps job header samples listener kept rest mid old new
  has_begun t begun = record {
    counted = t.counted;
    lawful = t.lawful;
    in_range = t.in_range;
    enough = omega (arith, t.left);
    consumed = t.consumed;
    line = begun.written;
    listens = begun.listens;
  }

  -- the text of the first samples, and a beginning of what is told of them
  pub writes_first_part : {taps : List KeptTap} {job : Job} {header : Header}
      {samples : List Sample} {listener : L} {kept : List KeptTap} {rest mid old between new : Option (List ℕ)} →
      HasBegun hearing taps job header samples listener kept rest mid old between →
      ((l : Listening) (heard : List Sample) → hearing l listener kept heard →
      GainsPrefix l heard (heard ++ samples) between new) →
      WritesNoMore taps job rest mid old new
  writes_first_part {taps} {job} {header} {samples} {listener} {kept} {rest} {mid} {old} {between} {new}
      begun tells =
      let l = listening taps job header samples in
      begins_text mid header samples [] [] begun.counted begun.lawful begun.in_range
      (omega (arith, begun.counted, begun.enough)) begun.consumed (none_within (width_of header)) (Consumes-nil mid)
      (subst (λ (xs : List Sample). AppendsPrefix old new (told l xs)) (sym (append-nil samples))
      (part_text l old begun.line (tells l [] begun.listens)))

  -- that text and what is told of the first samples, and a beginning of what is told after them
  pub writes_rest_part : {taps : List KeptTap} {job : Job} {header : Header}
      {samples : List Sample} {count : ℕ} {one other : L} {kept following : List KeptTap}
      {rest mid left old between later new : Option (List ℕ)} → count + span_of job ≡ header.count →
      HasBegun hearing taps job header samples one kept rest mid old between →
      ((l : Listening) (heard : List Sample) → hearing l one kept heard →
      ListenerTells hearing l other following heard (heard ++ samples) between later) →
      ((l : Listening) (heard : List Sample) → hearing l other following heard →
      LosesSamples l (width_of header) count heard mid left later new) →
      WritesNoMore taps job rest left old new
  writes_rest_part {taps} {job} {header} {samples} {count} {one} {other} {kept} {following} {rest} {mid}
      {left} {old} {between} {later} {new} counts begun tells hears =
      let l = listening taps job header samples in
      let first = tells l [] begun.listens in
      let part = hears l samples first.listens in
      begins_text mid header samples part.samples part.more begun.counted begun.lawful begun.in_range
      (omega (arith, begun.counted, counts, part.number)) begun.consumed part.in_range part.consumed
      (part_text l old begun.line (part_after first.more part.tells))

  -- ---- the whole text

  -- that text and what is told of all samples are the file's text
  pub writes_whole : {taps : List KeptTap} {job : Job} {header : Header} {samples : List Sample}
      {listener : L} {kept : List KeptTap} {rest mid old between new : Option (List ℕ)}
      (others : List Sample) → HasBegun hearing taps job header samples listener kept rest mid old between →
      GainsText (listening taps job header samples) [] (samples ++ others) between new →
      Appends old new (file_text taps job header (samples ++ others))
  writes_whole {taps} {job} {header} {samples} {listener} {kept} {rest} {mid} {old} {between} {new}
      others begun more =
      let l = listening taps job header samples in
      subst (Appends old new) (sym (text_of_first taps job header samples others begun.counted))
      (more_text l old begun.line more)

  -- the file was read to its end, and its text written
  pub writes_text : {taps : List KeptTap} {job : Job} {status : Status} {header : Header}
      {samples : List Sample} {left : ℕ} {one other last : L}
      {kept following end_taps : List KeptTap} (rest mid end : Option (List ℕ))
      {old between later new : Option (List ℕ)} →
      IsLawfulHeader header → left + span_of job ≡ header.count → All (HasBits (width_of header)) samples →
      HasBegun hearing taps job header samples one kept rest mid old between →
      ((l : Listening) (heard : List Sample) → hearing l one kept heard →
      ListenerTells hearing l other following heard (heard ++ samples) between later) →
      ((l : Listening) (heard : List Sample) → hearing l other following heard →
      HearsRest hearing l (width_of header) left last end_taps heard mid end later new) →
      IsAtEnd end →
      ((l : Listening) (heard : List Sample) → hearing l last end_taps heard →
      status ≡ end_when (is_told l heard)) →
      IfSome rest (λ bytes. WritesText taps job status bytes old new)
  writes_text None mid end lawful count range begun tells hears ends told = tt
  writes_text (Some bytes) None end lawful count range begun tells hears ends told = absurd begun.consumed
  writes_text {taps} {job} {status} {header} {samples} (Some bytes) (Some more) None lawful count range
      begun tells hears ends told =
      let l = listening taps job header samples in
      absurd (hears l samples (tells l [] begun.listens).listens).consumed
  writes_text {taps} {job} {status} {header} {samples} (Some bytes) (Some more) (Some back) lawful count
      range begun tells hears ends told =
      let l = listening taps job header samples in
      let first = tells l [] begun.listens in
      let heard = hears l samples first.listens in
      let front = header_spelling header in
      let spelled = flat_map (sample_spelling (width_of header)) in
      let others = heard.samples in
      let rest_is : more ≡ spelled others = heard.consumed ∙
      ap (λ (bs : List ℕ). spelled others ++ bs) ends ∙ append-nil (spelled others) in
      let file : bytes ≡ front ++ spelled (samples ++ others) =
      begun.consumed
      ∙ ap (λ (bs : List ℕ). (front ++ spelled samples) ++ bs) rest_is
      ∙ append_assoc front (spelled samples) (spelled others)
      ∙ ap (λ (bs : List ℕ). front ++ bs) (sym (flat_map-append (sample_spelling (width_of header)) samples others)) in
      let long : length (samples ++ others) ≡ header.count =
      omega (arith, length-append samples others, begun.counted, heard.counted, count) in
      record {
        searchable = record {
          header = header;
          samples = samples ++ others;
          file = record {
            lawful = lawful;
            counted = long;
            in_range = All-append (HasBits (width_of header)) samples others range heard.in_range;
            spelled = file;
          };
          enough = omega (arith, length-append samples others, begun.counted);
        };
        written = writes_whole others begun (more_after first.more heard.tells.more);
        ends = told l (samples ++ others) heard.tells.listens ∙
            sym (end_after taps job header samples others begun.counted);
      }
