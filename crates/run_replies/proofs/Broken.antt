-- What is written of a sample file that breaks off, whose reading fails, or that goes on.
use Rattle.run_replies.proofs.Common.{IsHearing, ◌≡◌, ℕ, ◌+◌, ◌*◌, ◌<◌, ◌≤◌, ◌++◌, List, [], length, sym, ap, ◌∙◌, subst, arith, append_assoc, Option}
use Rattle.run_replies.proofs.Common.{length-append, None, Some, Ok, flat_map-append, flat_map, Sample, Header, HasBits, IsLawfulHeader}
use Rattle.run_replies.proofs.Common.{header_spelling, opening, sample_len, sample_spelling, width_of, All-append, length-header_spelling}
use Rattle.run_replies.proofs.Common.{length-samples, KeptTap, front_begins, HasWritten, HearsFirst, WritesAll, WritesFirst, Listening}
use Rattle.run_replies.proofs.Common.{ListenerTells, listening, Job, span_of}
use Rattle.run_replies.proofs.CutFiles.{no_fewer, lost, same_header}
use Rattle.run_replies.proofs.GainedTexts.{more_after}
use Rattle.run_replies.proofs.WrittenTexts.{HasBegun, writes_whole}

module _ {L : Type 0} {hearing : IsHearing L} where
  -- the first samples were read and told of, and those after them so far as they were heard
  pub has_written : {taps : List KeptTap} {job : Job} {header : Header} {samples : List Sample}
      {one other : L} {kept following : List KeptTap} {counted : ℕ → Type 0} {most : ℕ}
      (bytes more : List ℕ) (left : Option (List ℕ)) {old between later new : Option (List ℕ)} (number : ℕ → Type 0) →
      HasBegun hearing taps job header samples one kept (Some bytes) (Some more) old between →
      ((l : Listening) (heard : List Sample) → hearing l one kept heard →
      ListenerTells hearing l other following heard (heard ++ samples) between later) →
      (heard : HearsFirst (listening taps job header samples) (width_of header) counted most
      samples (Some more) left later new) →
      number (length (samples ++ heard.samples)) → length (samples ++ heard.samples) ≤ header.count →
      HasWritten taps job header bytes number old new
  has_written {taps} {job} {header} {samples} bytes more None number begun tells heard fits most = absurd heard.consumed
  has_written {taps} {job} {header} {samples} bytes more (Some after) number begun tells heard fits most =
      let first = tells (listening taps job header samples) [] begun.listens in
      let front = header_spelling header in
      let spelled = flat_map (sample_spelling (width_of header)) in
      let others = heard.samples in
      let following = heard.more ++ after in
      record {
        samples = samples ++ others;
        lawful = begun.lawful;
        enough = omega (arith, length-append samples others, begun.counted);
        most = most;
        number = fits;
        in_range =
            All-append (HasBits (width_of header)) samples others begun.in_range heard.in_range;
        first = front_begins bytes (front ++ spelled (samples ++ others)) following
            (begun.consumed
            ∙ ap (λ (bs : List ℕ). (front ++ spelled samples) ++ bs)
            (heard.consumed ∙ append_assoc (spelled others) heard.more after)
            ∙ append_assoc front (spelled samples) (spelled others ++ following)
            ∙ ap (λ (bs : List ℕ). front ++ bs)
            (sym (append_assoc (spelled samples) (spelled others) following)
            ∙ ap (λ (bs : List ℕ). bs ++ following)
            (sym (flat_map-append (sample_spelling (width_of header)) samples others)))
            ∙ sym (append_assoc front (spelled (samples ++ others)) following));
        written = writes_whole others begun (more_after first.more heard.tells);
      }

  -- where a file breaks off, or a read fails, fewer samples are missing than are read at once
  pub writes_first : {taps : List KeptTap} {job : Job} {header : Header} {samples : List Sample}
      {count : ℕ} {one other : L} {kept following : List KeptTap}
      (rest mid left old : Option (List ℕ)) {between later : Option (List ℕ)} (new : Option (List ℕ)) →
      IsLawfulHeader header → count + span_of job ≡ header.count →
      HasBegun hearing taps job header samples one kept rest mid old between →
      ((l : Listening) (heard : List Sample) → hearing l one kept heard →
      ListenerTells hearing l other following heard (heard ++ samples) between later) →
      ((l : Listening) (heard : List Sample) → hearing l other following heard →
      HearsFirst l (width_of header) (λ k. k ≤ count) (sample_len (width_of header) * 4096) heard mid left
      later new) →
      WritesFirst taps job rest left old new
  writes_first None mid left old new lawful counts begun tells hears = tt
  writes_first (Some bytes) None left old new lawful counts begun tells hears = absurd begun.consumed
  writes_first {taps} {job} {header} {samples} (Some bytes) (Some more) None old new lawful counts begun
      tells hears =
      let l = listening taps job header samples in
      absurd (hears l samples (tells l [] begun.listens).listens).consumed
  writes_first {taps} {job} {header} {samples} {count} (Some bytes) (Some more) (Some after) old {between}
      {later} new lawful counts begun tells hears =
      λ (also : Header) (taken : List ℕ) (n : ℕ) (opened : opening bytes ≡ Ok also) (consumed : bytes ≡ taken ++ after)
      (long : 16 + sample_len (width_of also) * n ≤ length taken) (enough : span_of job ≤ n) (some : 0 < n).
      let l = listening taps job header samples in
      let heard = hears l samples (tells l [] begun.listens).listens in
      let width = width_of header in
      let spelled = flat_map (sample_spelling width) in
      let front = header_spelling header in
      let same = same_header bytes more header also samples lawful begun.consumed opened in
      let long : 16 + sample_len width * n ≤ length taken =
      subst (λ (h : Header). 16 + sample_len (width_of h) * n ≤ length taken) (sym same) long in
      let others = heard.samples in
      let fewer : length others ≤ count = heard.number in
      let taken_is : length taken ≡
      16 + sample_len width * length samples + sample_len width * length others + length heard.more =
      omega (
        arith,
        lost bytes after taken consumed,
        lost bytes more (front ++ spelled samples) begun.consumed,
        length-append front (spelled samples),
        length-header_spelling header,
        length-samples width samples,
        lost more after (spelled others ++ heard.more) heard.consumed,
        length-append (spelled others) heard.more,
        length-samples width others,
      ) in
      let both : sample_len width * length (samples ++ others) ≡
      sample_len width * (length samples + length others) =
      ap (λ (k : ℕ). sample_len width * k) (length-append samples others) in
      let bytes_of : sample_len width * n ≤
      sample_len width * (length samples + length others + 4096) = omega (arith, long, taken_is, heard.few) in
      subst
      (λ (h : Header). HasWritten taps job h bytes
      (λ k. (n ≤ k + 4096) × (16 + sample_len (width_of h) * k ≤ length taken)) old new)
      same
      (has_written bytes more (Some after)
      (λ (k : ℕ). (n ≤ k + 4096) × (16 + sample_len width * k ≤ length taken)) begun tells heard (
        omega (arith, length-append samples others, no_fewer width n (length samples + length others + 4096) bytes_of),
        omega (arith, both, taken_is),
      )
      (omega (arith, length-append samples others, begun.counted, fewer, counts)))

  -- where a file goes on after its samples, all of them were told of
  pub writes_all : {taps : List KeptTap} {job : Job} {header : Header} {samples : List Sample}
      {count : ℕ} {one other : L} {kept following : List KeptTap} {most : ℕ}
      (rest mid left old : Option (List ℕ)) {between later : Option (List ℕ)} (new : Option (List ℕ)) →
      IsLawfulHeader header → count + span_of job ≡ header.count →
      HasBegun hearing taps job header samples one kept rest mid old between →
      ((l : Listening) (heard : List Sample) → hearing l one kept heard →
      ListenerTells hearing l other following heard (heard ++ samples) between later) →
      ((l : Listening) (heard : List Sample) → hearing l other following heard →
      HearsFirst l (width_of header) (λ k. k ≡ count) most heard mid left later new) →
      WritesAll taps job rest old new
  writes_all None mid left old new lawful counted begun tells hears = tt
  writes_all (Some bytes) None left old new lawful counted begun tells hears = absurd begun.consumed
  writes_all {taps} {job} {header} {samples} (Some bytes) (Some more) left old {between} {later} new
      lawful counted begun tells hears =
      λ (also : Header) (opened : opening bytes ≡ Ok also).
      let l = listening taps job header samples in
      let heard = hears l samples (tells l [] begun.listens).listens in
      let same = same_header bytes more header also samples lawful begun.consumed opened in
      let all : length (samples ++ heard.samples) ≡ header.count =
      omega (arith, length-append samples heard.samples, heard.number, begun.counted, counted) in
      subst (λ (h : Header). HasWritten taps job h bytes (λ k. k ≡ h.count) old new) same
      (has_written bytes more left (λ (k : ℕ). k ≡ header.count) begun tells heard all (omega (arith, all)))
