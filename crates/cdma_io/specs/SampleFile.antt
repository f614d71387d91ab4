-- The sample file: its header and samples as bytes, and what its reader returns.
use Rattle.std.specs.Prelude.{◌≡◌, ◌≢◌, ℕ, ◌+◌, ◌*◌, ◌-◌, ◌/◌, ◌%◌, ◌<◌, ◌≤◌, ◌==◌, nat_eq, nat_le}
use Rattle.std.specs.Prelude.{nat_lt, Bool, true, if◌then◌else◌, List, [], ◌∷◌, ◌++◌, length, drop}
use Rattle.std.specs.Prelude.{All, Option, None, Some, Result, Ok, Err, OnOk, OnErr, IfErr, ℤ, ⊤}
use Rattle.std.specs.Prelude.{FitsSigned}
use Rattle.std.specs.Int.{cast_unsigned, w8, w16}
use Rattle.std.specs.List.{flat_map, starts_with}
use Rattle.std.specs.Io.KnownBytes.{Consumes, IsAtEnd}
use Rattle.byteorder.specs.Endian.{big_bytes, big_number}
use Rattle.chip_core.specs.declared.check_form.CheckForm.{CheckForm}
use Rattle.chip_core.specs.declared.check_form.CheckForm.TheVariants.{Plain, Complemented}
use Rattle.chip_core.specs.declared.sample.Sample.{Sample}
use Rattle.cdma_io.specs.Outside.{ConsumesAtMost, ConsumesFewer, Rose}
use Rattle.cdma_io.specs.declared.file_fault.FileFault.{FileFault}
use Rattle.cdma_io.specs.declared.file_fault.FileFault.TheVariants.{Magic, Version, Flags, Count}
use Rattle.cdma_io.specs.declared.file_fault.FileFault.TheVariants.{Short, Extra, ReadFault, TooFew}
use Rattle.cdma_io.specs.declared.header.Header.{Header}
use Rattle.chip_core.specs.declared.width.Width.{Width}
use Rattle.chip_core.specs.declared.width.Width.TheVariants.{Sixteen, Eight}
use Rattle.std.specs.Int as integers

-- ---- the bytes of a file

-- "IS95"
abbrev pub magic : List ℕ
magic = 73 ∷ 83 ∷ 57 ∷ 53 ∷ []

-- there are versions 1 and 2
abbrev pub is_version : ℕ → Bool
is_version version = if version == 1 then true else version == 2

-- the parts of samples have 16 bits in version 1, and 8 bits in version 2
abbrev pub width_in : ℕ → Width
width_in version = if version == 2 then Eight else Sixteen

-- the width of the parts of a file's samples
abbrev pub width_of : Header → Width
width_of header = width_in header.version

-- the most samples that a file may have
abbrev pub most_samples : Width → ℕ
most_samples Sixteen = 33554432
most_samples Eight = 67108864

-- 1 if check bits are complemented
abbrev pub form_flag : CheckForm → ℕ
form_flag Plain = 0
form_flag Complemented = 1

-- bit 0 for the 30-bit checks, and bit 1 for the 16-bit checks
abbrev pub flags_of : Header → ℕ
flags_of header = form_flag header.check30 + 2 * form_flag header.check16

-- the 16 bytes of a header: magic, version, flags, count of samples
unfoldable pub header_spelling : Header → List ℕ
header_spelling header =
    magic ++ big_bytes 2 header.version ++ big_bytes 2 (flags_of header) ++ big_bytes 8 header.count

-- the width of a part as a number of bits
abbrev pub integer_width_of : Width → integers.Width
integer_width_of Sixteen = w16
integer_width_of Eight = w8

-- how many bytes a part has
abbrev pub part_len : Width → ℕ
part_len Sixteen = 2
part_len Eight = 1

-- how many bytes a sample has
abbrev pub sample_len : Width → ℕ
sample_len Sixteen = 4
sample_len Eight = 2

-- the bytes of a part, in two's complement
abbrev pub part_spelling : Width → ℤ → List ℕ
part_spelling width part = big_bytes (part_len width) (cast_unsigned (integer_width_of width) part)

-- the bytes of a sample: i, then q
unfoldable pub sample_spelling : Width → Sample → List ℕ
sample_spelling width sample = part_spelling width sample.i ++ part_spelling width sample.q

-- each part fits the width
pub record HasBits (width : Width) (sample : Sample) : Type 0 where
  pub in_phase : FitsSigned (integer_width_of width) sample.i
  pub quadrature : FitsSigned (integer_width_of width) sample.q

-- a header of version 1 or 2, which counts no more samples than its version has
pub record IsLawfulHeader (header : Header) : Type 0 where
  pub version_least : 1 ≤ header.version
  pub version_most : header.version ≤ 2
  pub count_most : header.count ≤ most_samples (width_of header)

-- the bytes are the file of this header and these samples
pub record IsSampleFile (bytes : List ℕ) (header : Header) (samples : List Sample) : Type 0 where
  pub lawful : IsLawfulHeader header
  pub counted : length samples ≡ header.count
  pub in_range : All (HasBits (width_of header)) samples
  pub spelled : bytes ≡
      header_spelling header ++ flat_map (sample_spelling (width_of header)) samples

-- ---- the result of opening a file

-- complemented if the flag is set
abbrev pub check_form_of : Bool → CheckForm
check_form_of flag = if flag then Complemented else Plain

-- the result `due` if a test passes, otherwise the fault
abbrev pub due_if : Bool → FileFault → Result Header FileFault → Result Header FileFault
due_if test fault due = if test then due else Err fault

-- the result for a header of these numbers: the header, or the first fault in them
abbrev pub header_due : ℕ → ℕ → ℕ → Result Header FileFault
header_due version flags count =
    due_if (is_version version) Version
    (due_if (nat_lt flags 4) Flags
    (due_if (nat_le count (most_samples (width_in version))) Count
    (Ok (record {
      version = version;
      check30 = check_form_of (flags % 2 == 1);
      check16 = check_form_of (flags / 2 % 2 == 1);
      count = count;
    }))))

-- the result of opening a file of these bytes: its header, or the first fault in the first 16 bytes
unfoldable pub opening : List ℕ → Result Header FileFault
opening bytes =
    due_if (nat_le 16 (length bytes)) (Short (length bytes))
    (due_if (starts_with nat_eq bytes magic) Magic
    (header_due (big_number 2 (drop 4 bytes)) (big_number 2 (drop 6 bytes))
    (big_number 8 (drop 8 bytes))))

-- ---- the state and the results of a reader

-- a reader: the file's header, the number of samples not read yet, and the fault met, if any
pub record Reading : Type 0 where
  pub header : Header
  pub left : ℕ
  pub fault : Option FileFault

-- a reader that has read no sample
abbrev pub fresh_reading : Header → Reading
fresh_reading header = record { header = header; left = header.count; fault = None }

-- a reader that met a fault
abbrev pub faulted : Reading → FileFault → Reading
faulted reading e = record reading { fault = Some e }

-- the place in the file of the next sample
abbrev pub next_place : Reading → ℕ
next_place reading =
    16 + sample_len (width_of reading.header) * (reading.header.count - reading.left)

-- `open` returned the result `due`, or a read failed
abbrev pub Opens : Result Reading FileFault → Result Header FileFault → Type 0
Opens (Ok reading) due = due ≡ Ok reading.header
Opens (Err e) due = e ≢ ReadFault → due ≡ Err e

-- `wanted` bytes of samples couldn't be read: the file ends before them, or a read failed
abbrev pub CutsShort : FileFault → ℕ → ℕ → Option (List ℕ) → Option (List ℕ) → Type 0
CutsShort (Short place) wanted from None new = ⊤
CutsShort (Short place) wanted from (Some bytes) new =
    (length bytes < wanted) × (place ≡ from + length bytes) × IsAtEnd new
CutsShort ReadFault wanted from old new = ⊤
CutsShort _ wanted from old new = ⊥

-- Result of reading `count` samples from offset `place` of the file. If it returns the samples, the
-- bytes that were consumed are theirs, and their parts fit the width. If it fails, the file ends
-- before them, or a take failed and the count of faults rose. No more bytes than theirs are
-- consumed, and fewer if it fails.
pub record ReadsSamples {T : Type 0} (width : Width) (place count : ℕ) (old new : Option (List ℕ))
    (before now : ℕ) (samples : List Sample) (result : Result T FileFault) : Type 0 where
  pub spelled : OnOk result (Consumes old new (flat_map (sample_spelling width) samples))
  pub in_range : OnOk result (All (HasBits width) samples)
  pub fault : IfErr result (λ e. CutsShort e (sample_len width * count) place old new)
  pub taken : ConsumesAtMost (sample_len width * count) old new
  pub fewer : OnErr result (ConsumesFewer (sample_len width * count) old new)
  pub later : before ≤ now
  pub cause : result ≡ Err ReadFault → Rose before now

-- the file goes on after its samples, or a read failed
abbrev pub RunsOn : FileFault → ℕ → Option (List ℕ) → Type 0
RunsOn (Extra place) end None = place ≡ end
RunsOn (Extra place) end (Some bytes) = (0 < length bytes) × (place ≡ end)
RunsOn ReadFault end old = ⊤
RunsOn _ end old = ⊥

-- the place of a fault in the file
abbrev pub fault_place : FileFault → Option ℕ
fault_place Magic = Some 0
fault_place Version = Some 4
fault_place Flags = Some 6
fault_place Count = Some 8
fault_place (Short place) = Some place
fault_place (Extra place) = Some place
fault_place ReadFault = None
fault_place (TooFew count) = Some 8
