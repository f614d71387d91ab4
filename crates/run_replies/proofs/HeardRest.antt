-- A listener hears the samples after the first ones, piece by piece, to the end of the file.
use Rattle.run_replies.proofs.Common.{IsHearing, ◌≡◌, ℕ, ◌+◌, ◌-◌, ◌≤◌, ◌++◌, [], List, length, take, sym, subst, arith, append_assoc, append-nil, All}
use Rattle.run_replies.proofs.Common.{length-append, length-take-le, Option, flat_map-append, flat_map, Consumes, Keeps, Consumes-kept}
use Rattle.run_replies.proofs.Common.{Consumes-nil, Consumes-trans, All-append, Width, ConsumesAtMost, HasBits, sample_spelling, Sample}
use Rattle.run_replies.proofs.Common.{KeptTap, HearsFirst, PassesSamples, LosesSamples, HearsRest, Listening, ListenerTells, GainsPrefix}
use Rattle.run_replies.proofs.GainedTexts.{all_part, more_after, more_none, part_after}

-- a source lost the spellings of `count` samples, and one listener became the other by hearing
-- them, as the taps that are kept did. The samples are known also where the listener stands for
-- nothing that is known
pub record Hears {L : Type 0} (hearing : IsHearing L) (width : Width) (count : ℕ) (one other : L)
    (kept following : List KeptTap) (rest left old new : Option (List ℕ)) : Type 0 where
  pub passed : PassesSamples width count rest left
  pub tells : (l : Listening) (heard : List Sample) → hearing l one kept heard →
      ListenerTells hearing l other following heard (heard ++ passed.samples) old new

-- spellings after others
consumes_more : (width same : Width) (rest mid left : Option (List ℕ)) (samples more : List Sample) → same ≡ width →
    Consumes rest mid (flat_map (sample_spelling width) samples) →
    Consumes mid left (flat_map (sample_spelling same) more) →
    Consumes rest left (flat_map (sample_spelling width) (samples ++ more))
consumes_more width same rest mid left samples more is consumed next =
    subst (Consumes rest left) (sym (flat_map-append (sample_spelling width) samples more))
    (Consumes-trans rest mid left (flat_map (sample_spelling width) samples)
    (flat_map (sample_spelling width) more) consumed (rw is at next))

module _ {L : Type 0} {hearing : IsHearing L} where
  pub hears_nothing : {width : Width} {listener : L} {kept : List KeptTap} {rest old : Option (List ℕ)} (n : ℕ) →
      Hears hearing width (n - n) listener listener kept kept rest rest old old
  hears_nothing {width} {listener} {kept} {rest} {old} n = record {
    passed = record {
      samples = [];
      counted = omega arith;
      in_range = λ k d h. absurd (omega (arith, h));
      consumed = Consumes-nil rest;
    };
    tells = λ (l : Listening) (heard : List Sample) (is : hearing l listener kept heard).
        rw (append-nil heard) (record { more = more_none l heard old; listens = is });
  }

  -- the next samples, of those that are left now
  pub hears_more : {width same : Width} {first one other : L}
      {begun kept following : List KeptTap} {rest mid left old between new : Option (List ℕ)}
      (all now n later : ℕ) (out : List Sample) → same ≡ width → later ≡ now - n →
      Hears hearing width (all - now) first one begun kept rest mid old between → now ≤ all → n ≤ now →
      n ≤ length out → All (HasBits same) (take n out) →
      Consumes mid left (flat_map (sample_spelling same) (take n out)) →
      ((l : Listening) (heard : List Sample) → hearing l one kept heard →
      ListenerTells hearing l other following heard (heard ++ take n out) between new) →
      Hears hearing width (all - later) first other begun following rest left old new
  hears_more {width} {same} {first} {one} {other} {begun} {kept} {following} {rest} {mid} {left} {old}
      {between} {new} all now n later out is fewer h low fits room range consumed tells = record {
        passed = record {
          samples = h.passed.samples ++ take n out;
          counted =
              omega (
                arith,
                length-append h.passed.samples (take n out),
                length-take-le n out room,
                h.passed.counted,
                fewer,
                low,
                fits,
              );
          in_range =
              All-append (HasBits width) h.passed.samples (take n out) h.passed.in_range
              (subst (λ (w : Width). All (HasBits w) (take n out)) is range);
          consumed =
              consumes_more width same rest mid left h.passed.samples (take n out) is
              h.passed.consumed
              consumed;
        };
        tells = λ (l : Listening) (heard : List Sample) (is : hearing l first begun heard).
            let samples = h.passed.samples in
            let before = h.tells l heard is in
            let next = tells l (heard ++ samples) before.listens in
            subst (λ (xs : List Sample). ListenerTells hearing l other following heard xs old new)
            (append_assoc heard samples (take n out))
            (record { more = more_after before.more next.more; listens = next.listens });
      }

  -- the end was reached: no sample is left
  pub hears_all : {width : Width} {one other : L} {kept following : List KeptTap}
      {rest mid left old new : Option (List ℕ)} (all now : ℕ) →
      Hears hearing width (all - now) one other kept following rest mid old new → now ≤ 0 → Keeps mid left →
      (l : Listening) (heard : List Sample) → hearing l one kept heard →
      HearsRest hearing l width all other following heard rest left old new
  hears_all {width} {one} {other} {kept} {following} {rest} {mid} {left} all now h done keeps l heard
      is = record {
        samples = h.passed.samples;
        counted = omega (arith, h.passed.counted, done);
        in_range = h.passed.in_range;
        consumed =
            Consumes-kept rest mid left (flat_map (sample_spelling width) h.passed.samples)
            h.passed.consumed keeps;
        tells = h.tells l heard is;
      }

  -- what was told so far is a part of it, whatever few bytes were taken after it
  pub hears_part : {width : Width} {count limit : ℕ} {one other : L}
      {kept following : List KeptTap} {rest mid left old new : Option (List ℕ)} (most : ℕ) →
      Hears hearing width count one other kept following rest mid old new → count ≤ most → ConsumesAtMost limit mid left →
      (l : Listening) (heard : List Sample) → hearing l one kept heard → LosesSamples l width most heard rest left old new
  hears_part {width} {count} {limit} {one} {other} {kept} {following} {rest} {mid} {left} most h few part l
      heard is = record {
        samples = h.passed.samples;
        more = part.bytes;
        number = omega (arith, h.passed.counted, few);
        in_range = h.passed.in_range;
        consumed =
            Consumes-trans rest mid left (flat_map (sample_spelling width) h.passed.samples)
            part.bytes h.passed.consumed part.consumed;
        tells = all_part (h.tells l heard is).more;
      }

  -- a write failed after what was told so far
  pub hears_stopped : {width same : Width} {count : ℕ} {one other : L}
      {kept following : List KeptTap} {rest mid old between new : Option (List ℕ)}
      (left : Option (List ℕ)) (more : List Sample) (most : ℕ) → same ≡ width →
      Hears hearing width count one other kept following rest mid old between → count + length more ≤ most →
      All (HasBits same) more → Consumes mid left (flat_map (sample_spelling same) more) →
      ((l : Listening) (heard : List Sample) → hearing l other following heard →
      GainsPrefix l heard (heard ++ more) between new) →
      (l : Listening) (heard : List Sample) → hearing l one kept heard → LosesSamples l width most heard rest left old new
  hears_stopped {width} {same} {count} {one} {other} {kept} {following} {rest} {mid} {old} {between}
      {new} left more most same_is h fits range consumed part l heard is =
      let samples = h.passed.samples in
      let first = h.tells l heard is in
      record {
        samples = samples ++ more;
        more = [];
        number = omega (arith, length-append samples more, h.passed.counted, fits);
        in_range =
            All-append (HasBits width) samples more h.passed.in_range
            (subst (λ (w : Width). All (HasBits w) more) same_is range);
        consumed = subst (Consumes rest left) (sym (append-nil (flat_map (sample_spelling width) (samples ++ more))))
            (consumes_more width same rest mid left samples more same_is h.passed.consumed consumed);
        tells = subst (λ (xs : List Sample). GainsPrefix l heard xs old new) (append_assoc heard samples more)
            (part_after first.more (part l (heard ++ samples) first.listens));
      }

  -- a read failed, or what it read wasn't wanted: what was told is of the samples before
  pub hears_first : {width : Width} {count limit : ℕ} {one other : L}
      {kept following : List KeptTap} {rest mid left old new : Option (List ℕ)} (counted : ℕ → Type 0) (most : ℕ) →
      Hears hearing width count one other kept following rest mid old new → counted count →
      ConsumesAtMost limit mid left → limit ≤ most → (l : Listening) (heard : List Sample) → hearing l one kept heard →
      HearsFirst l width counted most heard rest left old new
  hears_first {width} {count} {limit} {one} {other} {kept} {following} {rest} {mid} {left} counted most h
      number part few l heard is = record {
        samples = h.passed.samples;
        more = part.bytes;
        number = subst counted (sym h.passed.counted) number;
        in_range = h.passed.in_range;
        few = omega (arith, part.fits, few);
        consumed =
            Consumes-trans rest mid left (flat_map (sample_spelling width) h.passed.samples)
            part.bytes h.passed.consumed part.consumed;
        tells = (h.tells l heard is).more;
      }
