-- The text for a sample file that breaks off, whose reading fails, or that continues after its
-- samples.
use Rattle.run_replies.specs.Common.{Sample, Header, Width, HasBits, IsLawfulHeader, opening}
use Rattle.run_replies.specs.Common.{header_spelling, sample_len, sample_spelling, width_of}
use Rattle.run_replies.specs.Common.{KeptTap, Job, Status}
use Rattle.std.specs.Prelude.{◌≡◌, ℕ, ◌+◌, ◌*◌, ◌<◌, ◌≤◌, ◌++◌, List, length, All, Option, IfSome}
use Rattle.std.specs.Prelude.{Some, Ok}
use Rattle.std.specs.List.{flat_map}
use Rattle.std.specs.Io.{StartsWith}
use Rattle.std.specs.Io.KnownBytes.{Appends, Consumes}
use Rattle.cdma_io.specs.declared.file_fault.FileFault.TheVariants.{Short, Extra}
use Rattle.run_replies.specs.Hearing.{Listening, GainsText, file_text, span_of}
use Rattle.run_ends.specs.declared.status.Status.TheVariants.{BadFile, ReadFault}

-- the file ended before all of its samples, or a read failed
abbrev pub IsCut : Status → Type 0
IsCut (BadFile (Short place)) = Unit {0}
IsCut ReadFault = Unit {0}
IsCut _ = ⊥

-- the file continued after its samples
abbrev pub IsLong : Status → Type 0
IsLong (BadFile (Extra place)) = Unit {0}
IsLong _ = ⊥

-- These bytes begin with this lawful header and samples, each within its width. The number of
-- samples satisfies `counted`, and is at least the span's and at most the header's. Exactly their
-- text was written.
pub record HasWritten (taps : List KeptTap) (job : Job) (header : Header) (bytes : List ℕ)
    (counted : ℕ → Type 0) (old new : Option (List ℕ)) : Type 0 where
  pub samples : List Sample
  pub lawful : IsLawfulHeader header
  pub enough : span_of job ≤ length samples
  pub most : length samples ≤ header.count
  pub number : counted (length samples)
  pub in_range : All (HasBits (width_of header)) samples
  pub first : StartsWith bytes
      (header_spelling header ++ flat_map (sample_spelling (width_of header)) samples)
  pub written : Appends old new (file_text taps job header samples)

-- Fewer bytes than a header and `count` samples, at least one, were taken from known bytes.
abbrev pub TakesFew : ℕ → Option (List ℕ) → Option (List ℕ) → Type 0
TakesFew count rest left =
    IfSome rest
    (λ bytes. (header : Header) (taken : List ℕ) (n : ℕ) → opening bytes ≡ Ok header →
    Consumes (Some bytes) left taken → count ≤ n → 0 < n →
    length taken < 16 + sample_len (width_of header) * n)

-- known bytes do not begin a sample file
abbrev pub IsUnopened : Option (List ℕ) → Type 0
IsUnopened rest = IfSome rest (λ bytes. (header : Header) → ¬ (opening bytes ≡ Ok header))

-- If `n` whole samples, at least the span's, were taken from known bytes, the text of the first of
-- them was written: of all but at most 4,096, which are read at once. All samples whose text was
-- written were taken.
abbrev pub WritesFirst : List KeptTap → Job → Option (List ℕ) → Option (List ℕ) →
    Option (List ℕ) → Option (List ℕ) → Type 0
WritesFirst taps job rest left old new =
    IfSome rest
    (λ bytes. (header : Header) (taken : List ℕ) (n : ℕ) → opening bytes ≡ Ok header →
    Consumes (Some bytes) left taken →
    16 + sample_len (width_of header) * n ≤ length taken → span_of job ≤ n → 0 < n →
    HasWritten taps job header bytes
    (λ k. (n ≤ k + 4096) × (16 + sample_len (width_of header) * k ≤ length taken)) old new)

-- the text of all samples that the header counts was written
abbrev pub WritesAll : List KeptTap → Job → Option (List ℕ) → Option (List ℕ) →
    Option (List ℕ) → Type 0
WritesAll taps job rest old new =
    IfSome rest
    (λ bytes. (header : Header) → opening bytes ≡ Ok header →
    HasWritten taps job header bytes (λ k. k ≡ header.count) old new)

-- The spellings of samples, each within its width, and at most `most` bytes after them were taken
-- from a source. The number of samples satisfies `counted`, and a sink received their text.
pub record HearsFirst (l : Listening) (width : Width) (counted : ℕ → Type 0) (most : ℕ)
    (heard : List Sample) (rest left old new : Option (List ℕ)) : Type 0 where
  pub samples : List Sample
  pub more : List ℕ
  pub number : counted (length samples)
  pub in_range : All (HasBits width) samples
  pub few : length more ≤ most
  pub consumed : Consumes rest left (flat_map (sample_spelling width) samples ++ more)
  pub tells : GainsText l heard (heard ++ samples) old new
