-- Lemmas on reading samples piece by piece.
use Rattle.cdma_io.proofs.Common.{◌≡◌, ℕ, ◌+◌, ◌*◌, ◌<◌, ◌≤◌, List, ◌++◌, length, take, sym, ap, ◌∙◌, subst, arith, length-append, take_all}
use Rattle.cdma_io.proofs.Common.{All, Option, None, Some, Result, Err, flat_map, Consumes, IsAtEnd, Consumes-trans, length-take-le, Sample}
use Rattle.cdma_io.proofs.Common.{flat_map-append, All-append, FileFault, Magic, Version, Flags, Count, Short, Extra, ReadFault, TooFew}
use Rattle.cdma_io.proofs.Common.{ConsumesAtMost, ConsumesFewer, Width, CutsShort, HasBits, sample_len, sample_spelling}
use borrow.Rule.Slice.PartMut.{put_mid}
use Rattle.cdma_io.proofs.Moves.{filled_more}
use Rattle.cdma_io.proofs.Spelling.{length-samples, sample_len-mono}

-- the bytes of the samples that were read, by their number
pub samples_taken : (width : Width) (old new : Option (List ℕ)) (samples : List Sample) (most : ℕ) →
    length samples ≤ most → Consumes old new (flat_map (sample_spelling width) samples) →
    ConsumesAtMost (sample_len width * most) old new
samples_taken width old new samples most few read = record {
  bytes = flat_map (sample_spelling width) samples;
  fits = omega (arith, length-samples width samples, sample_len-mono width (length samples) most few);
  consumed = read;
}

-- samples that were read, and then a piece of which not all bytes were
pub samples_taken_fewer : (width : Width) (old mid new : Option (List ℕ)) (samples : List Sample)
    (count most : ℕ) → length samples + count ≤ most → Consumes old mid (flat_map (sample_spelling width) samples) →
    ConsumesFewer (sample_len width * count) mid new → ConsumesFewer (sample_len width * most) old new
samples_taken_fewer width old mid new samples count most few read more = record {
  bytes = flat_map (sample_spelling width) samples ++ more.bytes;
  fits = omega (
    arith,
    length-samples width samples,
    length-append (flat_map (sample_spelling width) samples) more.bytes,
    more.fits,
    sample_len-mono width (length samples + count) most few,
  );
  consumed =
      Consumes-trans old mid new (flat_map (sample_spelling width) samples) more.bytes read
      more.consumed;
}

-- fewer is at most
pub fewer_at_most : (limit : ℕ) (old new : Option (List ℕ)) → ConsumesFewer limit old new → ConsumesAtMost limit old new
fewer_at_most limit old new fewer = record {
  bytes = fewer.bytes;
  fits = omega (arith, fewer.fits);
  consumed = fewer.consumed;
}

-- `count` bytes of a buffer were taken, fewer than were wanted
pub fewer_taken : (old new : Option (List ℕ)) (buf : List ℕ) (count wanted : ℕ) →
    count ≤ length buf → count < wanted → Consumes old new (take count buf) → ConsumesFewer wanted old new
fewer_taken old new buf count wanted within few read = record {
  bytes = take count buf;
  fits = omega (arith, length-take-le count buf within, few);
  consumed = read;
}

pub piece_cut_short : (old new : Option (List ℕ)) (buf : List ℕ) (count wanted place : ℕ) →
    count ≤ length buf → count < wanted → Consumes old new (take count buf) → IsAtEnd new →
    CutsShort (Short (place + count)) wanted place old new
piece_cut_short None new buf count wanted place within few read ended = tt
piece_cut_short (Some xs) None buf count wanted place within few read ended = absurd read
piece_cut_short (Some xs) (Some ys) buf count wanted place within few read ended =
    let long : length xs ≡ count =
    omega (
      arith,
      ap length read,
      length-append (take count buf) ys,
      length-take-le count buf within,
      ap length ended,
    ) in (omega (arith, long, few), omega (arith, long), ended)

-- a file that ended is not a failed read
pub short_is_no_failure : {T : Type 0} (place : ℕ) (result : Result T FileFault) →
    result ≡ Err (Short place) → ¬ (result ≡ Err ReadFault)
short_is_no_failure place result short failed = cc

-- a piece was cut short, and so is the whole
pub cuts_short_whole : (width : Width) (e : FileFault) (old mid new : Option (List ℕ))
    (samples : List Sample) (count whole from place : ℕ) →
    length samples + count ≤ whole → place ≡ from + sample_len width * length samples →
    Consumes old mid (flat_map (sample_spelling width) samples) → CutsShort e (sample_len width * count) place mid new →
    CutsShort e (sample_len width * whole) from old new
cuts_short_whole width (Short cut) None mid new samples count whole from place few here read fault = tt
cuts_short_whole width (Short cut) (Some xs) None new samples count whole from place few here read
    fault = absurd read
cuts_short_whole width (Short cut) (Some xs) (Some ys) new samples count whole from place few here
    read fault =
    let long : length xs ≡ sample_len width * length samples + length ys =
    ap length read ∙ length-append (flat_map (sample_spelling width) samples) ys ∙
    ap (λ (n : ℕ). n + length ys) (length-samples width samples) in (
      omega (arith, fault.0, long, sample_len-mono width (length samples + count) whole few),
      omega (arith, fault.1, long, here),
      fault.2,
    )
cuts_short_whole width ReadFault old mid new samples count whole from place few here read fault = tt
cuts_short_whole width Magic old mid new samples count whole from place few here read fault = absurd fault
cuts_short_whole width Version old mid new samples count whole from place few here read fault = absurd fault
cuts_short_whole width Flags old mid new samples count whole from place few here read fault = absurd fault
cuts_short_whole width Count old mid new samples count whole from place few here read fault = absurd fault
cuts_short_whole width (Extra cut) old mid new samples count whole from place few here read fault = absurd fault
cuts_short_whole width (TooFew n) old mid new samples count whole from place few here read fault = absurd fault

-- what a buffer holds up to a place, and the piece written there
piece_more : (out part : List Sample) (done k count : ℕ) → done ≤ length out → length part ≡ count →
    take done out ++ part ≡ take (done + count) (put_mid done k out part)
piece_more out part done k count within long =
    let whole : take count part ≡ part = take_all count part (omega (arith, long)) in
    ap (λ (xs : List Sample). take done out ++ xs) (sym whole) ∙
    filled_more out part done k count within (omega (arith, long))

-- the step of the loop over pieces
pub pieces_more : (width : Width) (old mid new : Option (List ℕ)) (out part : List Sample)
    (done k count : ℕ) → done ≤ length out → length part ≡ count →
    Consumes old mid (flat_map (sample_spelling width) (take done out)) →
    Consumes mid new (flat_map (sample_spelling width) part) → Consumes old new
    (flat_map (sample_spelling width) (take (done + count) (put_mid done k out part)))
pieces_more width old mid new out part done k count within long before read =
    let joined = flat_map-append (sample_spelling width) (take done out) part in
    let all : flat_map (sample_spelling width) (take done out) ++
    flat_map (sample_spelling width) part
    ≡ flat_map (sample_spelling width) (take (done + count) (put_mid done k out part)) =
    sym joined ∙
    ap (flat_map (sample_spelling width)) (piece_more out part done k count within long) in
    subst (Consumes old new) all (Consumes-trans old mid new _ _ before read)

pub pieces_in_range : (width : Width) (out part : List Sample) (done k count : ℕ) →
    done ≤ length out → length part ≡ count → All (HasBits width) (take done out) → All (HasBits width) part →
    All (HasBits width) (take (done + count) (put_mid done k out part))
pieces_in_range width out part done k count within long before small =
    subst (All (HasBits width)) (piece_more out part done k count within long)
    (All-append (HasBits width) (take done out) part before small)
