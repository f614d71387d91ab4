-- Lemmas on how many bytes are taken of an input at most.
use Rattle.run_replies.proofs.Common.{◌≡◌, ℕ, ◌+◌, ◌-◌, ◌*◌, ◌≤◌, ◌++◌, min, List, [], length, sym, ap, arith, subst, length-append, None}
use Rattle.run_replies.proofs.Common.{Option, Some, IfSome, Result, Ok, Err, Consumes-nil, Consumes-trans, flat_map, Consumes, Sample}
use Rattle.run_replies.proofs.Common.{Width, ConsumesAtMost, Opens, Reading, header_spelling, opening, sample_len, sample_spelling, Header}
use Rattle.run_replies.proofs.Common.{width_of, FileFault, length-header_spelling, length-samples, sample_len-mono, PassesSamples, Job}
use Rattle.run_replies.proofs.Common.{TakesNoMore, TakesSpan, file_end, most_taken, BoundsInput, Make, Trial}

-- ---- bounds

at_most : {few most : ℕ} {rest left : Option (List ℕ)} → few ≤ most → ConsumesAtMost few rest left →
    ConsumesAtMost most rest left
at_most is part = record { bytes = part.bytes; fits = omega (arith, part.fits, is); consumed = part.consumed }

-- a part, and then another
pub both_most : {one other most : ℕ} (rest mid left : Option (List ℕ)) →
    ConsumesAtMost one rest mid → ConsumesAtMost other mid left → one + other ≤ most → ConsumesAtMost most rest left
both_most rest mid left first next fits = record {
  bytes = first.bytes ++ next.bytes;
  fits = omega (arith, first.fits, next.fits, fits, length-append first.bytes next.bytes);
  consumed = Consumes-trans rest mid left first.bytes next.bytes first.consumed next.consumed;
}

pub none_most : (most : ℕ) (rest : Option (List ℕ)) → ConsumesAtMost most rest rest
none_most most rest = record { bytes = []; fits = omega arith; consumed = Consumes-nil rest }

-- ---- a file

header_most : (due : Result Header FileFault) → 16 ≤ most_taken due
header_most (Ok header) = omega arith
header_most (Err fault) = omega arith

pub opening_most : (rest left : Option (List ℕ)) → ConsumesAtMost 16 rest left → TakesNoMore rest left
opening_most None left part = tt
opening_most (Some bytes) left part = at_most (header_most (opening bytes)) part

-- a file that opens with this header
pub file_most : (header : Header) (rest left : Option (List ℕ)) →
    IfSome rest (λ bytes. opening bytes ≡ Ok header) → ConsumesAtMost (file_end header + 1) rest left →
    TakesNoMore rest left
file_most header None left is part = tt
file_most header (Some bytes) left is part =
    subst (λ (due : Result Header FileFault). ConsumesAtMost (most_taken due) (Some bytes) left) (sym is)
    part

pub opened_as : (rest : Option (List ℕ)) (reading : Reading) →
    IfSome rest (λ bytes. Opens (Ok reading) (opening bytes)) → IfSome rest (λ bytes. opening bytes ≡ Ok reading.header)
opened_as None reading told = tt
opened_as (Some bytes) reading told = told

-- the header alone
header_part : (header : Header) (rest mid : Option (List ℕ)) →
    Consumes rest mid (header_spelling header) → ConsumesAtMost 16 rest mid
header_part header rest mid consumed = record {
  bytes = header_spelling header;
  fits = omega (arith, length-header_spelling header);
  consumed = consumed;
}

-- the header, and some of its samples
pub span_most : (count : ℕ) (rest mid left : Option (List ℕ)) (reading : Reading) →
    IfSome rest (λ bytes. Opens (Ok reading) (opening bytes)) →
    Consumes rest mid (header_spelling reading.header) → reading.left ≡ reading.header.count →
    ConsumesAtMost (sample_len (width_of reading.header) * min count reading.left) mid left → TakesNoMore rest left
span_most count rest mid left reading told consumed all part =
    let within : min count reading.left ≤ reading.header.count = omega (arith, all) in
    file_most reading.header rest left (opened_as rest reading told)
    (both_most rest mid left (header_part reading.header rest mid consumed) part
    (omega (arith, sample_len-mono (width_of reading.header) (min count reading.left) reading.header.count within)))

-- the header and the first samples, and then some of the others
first_part : (header : Header) (samples : List Sample) (rest mid : Option (List ℕ)) → Consumes rest mid
    (header_spelling header ++ flat_map (sample_spelling (width_of header)) samples) →
    ConsumesAtMost (16 + sample_len (width_of header) * length samples) rest mid
first_part header samples rest mid consumed = record {
  bytes = header_spelling header ++ flat_map (sample_spelling (width_of header)) samples;
  fits = omega (
    arith,
    length-append (header_spelling header) (flat_map (sample_spelling (width_of header)) samples),
    length-header_spelling header,
    length-samples (width_of header) samples,
  );
  consumed = consumed;
}

pub shared_out : (width : Width) (one other all : ℕ) → other + one ≡ all →
    sample_len width * one + sample_len width * other ≡ sample_len width * all
shared_out width one other all is =
    let e : sample_len width * (other + one) ≡ sample_len width * all = ap (λ (n : ℕ). sample_len width * n) is in
    omega (arith, e)

pub rest_most : {span : ℕ} {header : Header} {samples : List Sample} {count : ℕ}
    {rest mid left : Option (List ℕ)} → TakesSpan span header samples count rest mid →
    ConsumesAtMost (sample_len (width_of header) * count + 1) mid left → TakesNoMore rest left
rest_most {span} {header} {samples} {count} {rest} {mid} {left} t part =
    let counted : count + length samples ≡ header.count = omega (arith, t.left, t.counted) in
    file_most header rest left t.opened
    (both_most rest mid left (first_part header samples rest mid t.consumed) part
    (omega (arith, shared_out (width_of header) (length samples) count header.count counted)))

-- `count` samples were read, and then some more bytes
pub passed_most : {width : Width} {count few most : ℕ} (rest mid left : Option (List ℕ)) →
    PassesSamples width count rest mid → ConsumesAtMost few mid left →
    sample_len width * count + few ≤ most → ConsumesAtMost most rest left
passed_most {width} {count} rest mid left p part fits =
    let all : sample_len width * length p.samples ≡ sample_len width * count =
    ap (λ (n : ℕ). sample_len width * n) p.counted in
    let first : ConsumesAtMost (sample_len width * count) rest mid = record {
      bytes = flat_map (sample_spelling width) p.samples;
      fits = omega (arith, all, length-samples width p.samples);
      consumed = p.consumed;
    } in
    both_most rest mid left first part fits

-- a piece more of those that were left
pub piece_most : {header also : Header} (left now room : ℕ) (rest mid new : Option (List ℕ)) →
    also ≡ header → now ≤ left → room ≤ now → PassesSamples (width_of header) (left - now) rest mid →
    ConsumesAtMost (sample_len (width_of also) * room) mid new →
    ConsumesAtMost (sample_len (width_of header) * left + 1) rest new
piece_most {header} left now room rest mid new same low fits passed part =
    let width = width_of header in
    passed_most rest mid new passed
    (subst (λ (h : Header). ConsumesAtMost (sample_len (width_of h) * room) mid new) same part)
    (omega (arith, sample_len-mono width room now fits, shared_out width (left - now) now left (omega (arith, low))))

-- ---- a job that has read nothing

pub unread_most : (job : Job) (rest : Option (List ℕ)) → BoundsInput job rest rest
unread_most (Make width) rest = none_most 1048577 rest
unread_most (Trial number workers) rest = none_most 0 rest
unread_most job rest = opening_most rest rest (none_most 16 rest)
