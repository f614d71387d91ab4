-- Lemmas on how many samples some bytes are, and on what is taken of a sample file that isn't read whole.
use Rattle.run_replies.proofs.Common.{◌≡◌, ℕ, ◌+◌, ◌*◌, ◌≤◌, ◌++◌, min, List, length, sym, ap, ◌∙◌, subst, arith, append_assoc, Option, Ok}
use Rattle.run_replies.proofs.Common.{length-append, None, Some, IfSome, Err, flat_map, Consumes, Sample, ConsumesAtMost, FileFault, Extra}
use Rattle.run_replies.proofs.Common.{ReadFault, Header, Width, Opens, Reading, header_spelling, opening, sample_len, sample_spelling, ◌<◌}
use Rattle.run_replies.proofs.Common.{width_of, opening-spelled, length-header_spelling, sample_len-mono, KeptTap, IsLong, file_status}
use Rattle.run_replies.proofs.Common.{Job, span_of, CutsShort, IsLawfulHeader, IsUnopened, TakesFew, WritesAll, WritesFirst}
use Rattle.cdma_io.specs.Outside.{ConsumesFewer}
use Rattle.chip_core.specs.declared.width.Width.TheVariants.{Eight, Sixteen}

-- ---- how many samples some bytes are

-- a sample has bytes
pub has_bytes : (width : Width) → 1 ≤ sample_len width * 4096
has_bytes Eight = omega arith
has_bytes Sixteen = omega arith

one_or_more : (width : Width) (n : ℕ) → 0 < n → 0 < sample_len width * n
one_or_more Eight n some = omega (arith, some)
one_or_more Sixteen n some = omega (arith, some)

-- more bytes are more samples
pub no_fewer : (width : Width) (n k : ℕ) → sample_len width * n ≤ sample_len width * k → n ≤ k
no_fewer Eight n k most = omega (arith, most)
no_fewer Sixteen n k most = omega (arith, most)

-- ---- before the first samples were read

-- what a source lost is what it has less
pub lost : (bytes left taken : List ℕ) → bytes ≡ taken ++ left → length bytes ≡ length taken + length left
lost bytes left taken is = ap length is ∙ length-append taken left

-- at most the header was taken
pub opening_few : (count : ℕ) (rest left : Option (List ℕ)) → ConsumesAtMost 16 rest left → TakesFew count rest left
opening_few count None left part = tt
opening_few count (Some bytes) None part = absurd part.consumed
opening_few count (Some bytes) (Some after) part =
    λ (header : Header) (taken : List ℕ) (n : ℕ) (opened : opening bytes ≡ Ok header)
    (consumed : bytes ≡ taken ++ after) (enough : count ≤ n) (some : 0 < n).
    omega (
      arith,
      part.fits,
      lost bytes after part.bytes part.consumed,
      lost bytes after taken consumed,
      one_or_more (width_of header) n some,
    )

-- the header, and not all of the first samples
pub span_few : (count : ℕ) (rest mid left : Option (List ℕ)) (reading : Reading) →
    IfSome rest (λ bytes. Opens (Ok reading) (opening bytes)) → Consumes rest mid (header_spelling reading.header) →
    ConsumesFewer (sample_len (width_of reading.header) * min count reading.left) mid left → TakesFew count rest left
span_few count None mid left reading told opened part = tt
span_few count (Some bytes) None left reading told opened part = absurd opened
span_few count (Some bytes) (Some more) None reading told opened part = absurd part.consumed
span_few count (Some bytes) (Some more) (Some after) reading told opened part =
    λ (header : Header) (taken : List ℕ) (n : ℕ) (is : opening bytes ≡ Ok header)
    (consumed : bytes ≡ taken ++ after) (enough : count ≤ n) (some : 0 < n).
    let same : reading.header ≡ header = (let both : Ok reading.header ≡ Ok header = sym told ∙ is in cc)
    in
    let few : length part.bytes < sample_len (width_of header) * min count reading.left =
    subst (λ (h : Header). length part.bytes < sample_len (width_of h) * min count reading.left)
    same part.fits in
    omega (
      arith,
      few,
      lost bytes more (header_spelling reading.header) opened,
      length-header_spelling reading.header,
      lost more after part.bytes part.consumed,
      lost bytes after taken consumed,
      sample_len-mono (width_of header) (min count reading.left) n (omega (arith, enough)),
    )

-- bytes that were refused open no file
pub unopened : (e : FileFault) (rest : Option (List ℕ)) →
    IfSome rest (λ bytes. Opens (Err e) (opening bytes)) → IsLong (file_status e) → IsUnopened rest
unopened e None told long = tt
unopened (Extra place) (Some bytes) told long =
    λ (header : Header) (is : opening bytes ≡ Ok header).
    let refused : opening bytes ≡ Err (Extra place) = told (λ (r : Extra place ≡ ReadFault). cc) in
    let never : Err (Extra place) ≡ Ok header = sym refused ∙ is in
    absurd (cc)
unopened e (Some bytes) told long = absurd long

-- so nothing is required for them
pub nothing_first : (taps : List KeptTap) (count : ℕ) (job : Job)
    (rest left old new : Option (List ℕ)) → count ≡ span_of job →
    TakesFew count rest left → WritesFirst taps job rest left old new
nothing_first taps count job None left old new same few = tt
nothing_first taps count job (Some bytes) left old new same few =
    λ (header : Header) (taken : List ℕ) (n : ℕ) (opened : opening bytes ≡ Ok header)
    (consumed : Consumes (Some bytes) left taken)
    (long : 16 + sample_len (width_of header) * n ≤ length taken) (enough : span_of job ≤ n) (some : 0 < n).
    absurd (omega (arith, long, few header taken n opened consumed (omega (arith, enough, same)) some))

pub nothing_all : (taps : List KeptTap) (job : Job) (rest old new : Option (List ℕ)) → IsUnopened rest → WritesAll taps job rest old new
nothing_all taps job None old new never = tt
nothing_all taps job (Some bytes) old new never =
    λ (header : Header) (opened : opening bytes ≡ Ok header). absurd (never header opened)

-- ---- after them

-- a file that breaks off isn't too long
pub no_long_cut : (e : FileFault) (wanted from : ℕ) (old new : Option (List ℕ)) →
    CutsShort e wanted from old new → ¬ (IsLong (file_status e))
no_long_cut (Extra place) wanted from old new cut = absurd cut
no_long_cut e wanted from old new cut = λ long. long

-- the header that a lawful file opens with
pub same_header : (bytes more : List ℕ) (header also : Header) (samples : List Sample) → IsLawfulHeader header →
    bytes ≡ (header_spelling header ++ flat_map (sample_spelling (width_of header)) samples) ++ more →
    opening bytes ≡ Ok also → header ≡ also
same_header bytes more header also samples lawful is opened =
    let spelled = flat_map (sample_spelling (width_of header)) samples in
    let both : Ok header ≡ Ok also =
    sym (ap opening (is ∙ append_assoc (header_spelling header) spelled more)
    ∙ opening-spelled header (spelled ++ more) lawful) ∙ opened in
    cc
