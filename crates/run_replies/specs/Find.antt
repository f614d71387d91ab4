-- Reading and writing while a sample file is received.
use Rattle.run_replies.specs.Common.{Sample, ConsumesAtMost, Header, FileFault, IsLawfulHeader}
use Rattle.run_replies.specs.Common.{IsSampleFile, HasBits, Reading, header_spelling, next_place}
use Rattle.run_replies.specs.Common.{opening, sample_len, sample_spelling, width_of, Width, Status}
use Rattle.run_replies.specs.Common.{Job, KeptTap}
use Rattle.std.specs.Prelude.{◌≡◌, ℕ, ◌+◌, ◌*◌, ◌<◌, ◌≤◌, ◌++◌, ◌⊎◌, List, [], length, All, Option}
use Rattle.std.specs.Prelude.{IfSome, Result, Ok, Err, Some}
use Rattle.std.specs.List.{flat_map}
use Rattle.std.specs.Io.{StartsWith}
use Rattle.std.specs.Io.KnownBytes.{Appends, Consumes}
use Rattle.cdma_io.specs.declared.file_fault.FileFault.TheVariants.{Short, Extra, ReadFault, TooFew}
use Rattle.run_ends.specs.declared.status.Status.TheVariants.{Done, NoSync, BadFile, WriteFault}
use Rattle.run_ends.specs.declared.status.Status.TheVariants.{BadWords, BadScript}
use Rattle.run_replies.specs.Hearing.{file_end_of, file_text, span_of}
use Rattle.run_ends.specs.declared.status.Status.TheVariants as ends

-- bytes that are a sample file of at least `span` samples
pub record IsSearchable (bytes : List ℕ) (span : ℕ) : Type 0 where
  pub header : Header
  pub samples : List Sample
  pub file : IsSampleFile bytes header samples
  pub enough : span ≤ length samples

-- bytes that begin with a lawful header, counting at least `span` samples, and `span` samples
pub record BeginsFile (span : ℕ) (bytes : List ℕ) : Type 0 where
  pub header : Header
  pub samples : List Sample
  pub lawful : IsLawfulHeader header
  pub enough : span ≤ header.count
  pub counted : length samples ≡ span
  pub begins : StartsWith bytes
      (header_spelling header ++ flat_map (sample_spelling (width_of header)) samples)

-- this lawful header, with which known bytes open, and `span` samples, each within its width, were
-- taken from them; `count` of the samples that the header counts remain
pub record TakesSpan (span : ℕ) (header : Header) (samples : List Sample) (count : ℕ)
    (rest mid : Option (List ℕ)) : Type 0 where
  pub lawful : IsLawfulHeader header
  pub counted : length samples ≡ span
  pub left : count + span ≡ header.count
  pub in_range : All (HasBits (width_of header)) samples
  pub consumed : Consumes rest mid
      (header_spelling header ++ flat_map (sample_spelling (width_of header)) samples)
  pub opened : IfSome rest (λ bytes. opening bytes ≡ Ok header)

-- the spellings of `count` samples of this width were taken from known bytes
pub record PassesSamples (width : Width) (count : ℕ) (old new : Option (List ℕ)) : Type 0 where
  pub samples : List Sample
  pub counted : length samples ≡ count
  pub in_range : All (HasBits width) samples
  pub consumed : Consumes old new (flat_map (sample_spelling width) samples)

-- the file of these bytes was read, its text was written, and the run ended as required
pub record WritesText (taps : List KeptTap) (job : Job) (status : Status) (bytes : List ℕ)
    (old new : Option (List ℕ)) : Type 0 where
  pub searchable : IsSearchable bytes (span_of job)
  pub written : Appends old new (file_text taps job searchable.header searchable.samples)
  pub ends : status ≡ file_end_of job searchable.header searchable.samples

-- `text` is a prefix of the text of samples. A lawful header (so the one that the bytes open with),
-- these samples, and possibly more bytes were taken from known bytes. There are at least as many
-- samples as the span and at most as many as the header counts, each within its width.
pub record BeginsText (taps : List KeptTap) (job : Job) (rest left : Option (List ℕ))
    (text : List ℕ) : Type 0 where
  pub header : Header
  pub samples : List Sample
  pub more : List ℕ
  pub lawful : IsLawfulHeader header
  pub counted : span_of job ≤ length samples
  pub most : length samples ≤ header.count
  pub in_range : All (HasBits (width_of header)) samples
  pub taken : Consumes rest left
      ((header_spelling header ++ flat_map (sample_spelling (width_of header)) samples) ++ more)
  pub begins : StartsWith (file_text taps job header samples) text

-- known bytes grew by nothing, or by a prefix of that text
pub record WritesNoMore (taps : List KeptTap) (job : Job)
    (rest left old new : Option (List ℕ)) : Type 0 where
  pub text : List ℕ
  pub written : Appends old new text
  pub part : (text ≡ []) ⊎ BeginsText taps job rest left text

-- a run that read its input to the end and wrote all of its text
abbrev pub IsEnd : Status → Type 0
IsEnd Done = Unit {0}
IsEnd NoSync = Unit {0}
IsEnd _ = ⊥

-- a fault that is found before any sample is read
abbrev pub IsHeaderFault : FileFault → Type 0
IsHeaderFault (Short place) = ⊥
IsHeaderFault (Extra place) = ⊥
IsHeaderFault ReadFault = ⊥
IsHeaderFault _ = Unit {0}

-- the length in bytes of a file with this header
abbrev pub file_end : Header → ℕ
file_end header = 16 + sample_len (width_of header) * header.count

-- the most bytes that are taken from a file with this opening: one more than its length, to check
-- that it ends, or at most the length of a header
abbrev pub most_taken : Result Header FileFault → ℕ
most_taken (Ok header) = file_end header + 1
most_taken (Err fault) = 16

-- at most `most_taken` bytes were taken from known bytes
abbrev pub TakesNoMore : Option (List ℕ) → Option (List ℕ) → Type 0
TakesNoMore rest left =
    IfSome rest (λ bytes. ConsumesAtMost (most_taken (opening bytes)) (Some bytes) left)

-- a fault after the header in a file with this header and `len` bytes
abbrev pub IsLaterFault : ℕ → Header → ℕ → FileFault → Type 0
IsLaterFault span header len (TooFew count) = (count ≡ header.count) × (count < span)
IsLaterFault span header len (Short place) =
    (span ≤ header.count) × (place ≡ len) × (len < file_end header)
IsLaterFault span header len (Extra place) =
    (span ≤ header.count) × (place ≡ file_end header) × (place < len)
IsLaterFault span header len _ = ⊥

-- the only fault of these bytes as a file of at least `span` samples
abbrev pub IsFaultIn : ℕ → List ℕ → FileFault → Type 0
IsFaultIn span bytes fault =
    (opening bytes ≡ Err fault) ⊎
    ((header : Header) × (opening bytes ≡ Ok header) ×
    IsLaterFault span header (length bytes) fault)

-- a fault that a reader finds in the `len` bytes that remain
abbrev pub IsRestFault : Reading → ℕ → FileFault → Type 0
IsRestFault reading len (Short place) =
    (place ≡ next_place reading + len) × (len < sample_len (width_of reading.header) * reading.left)
IsRestFault reading len (Extra place) =
    (place ≡ file_end reading.header) × (sample_len (width_of reading.header) * reading.left < len)
IsRestFault reading len _ = ⊥

-- a fault of the file, or a failed read or write
abbrev pub IsFault : Status → Type 0
IsFault (BadFile fault) = Unit {0}
IsFault ends.ReadFault = Unit {0}
IsFault WriteFault = Unit {0}
IsFault _ = ⊥

-- an end of a run over a sample file: not a fault of the arguments or of a script
abbrev pub IsOfFiles : Status → Type 0
IsOfFiles BadWords = ⊥
IsOfFiles (BadScript fault) = ⊥
IsOfFiles _ = Unit {0}
