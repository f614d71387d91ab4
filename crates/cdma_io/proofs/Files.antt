-- Lemmas on a reader of a file that is lawful.
use Rattle.cdma_io.proofs.Common.{◌≡◌, ℕ, ◌*◌, ◌≤◌, List, length, take, drop, refl, ap, ◌∙◌, arith, All, Option, None, Some, Result, Ok}
use Rattle.cdma_io.proofs.Common.{Err, MatchResult, flat_map, Consumes, Sample, FileFault, Magic, Version, Flags, Count, Short, Extra}
use Rattle.cdma_io.proofs.Common.{ReadFault, TooFew, Header, Width, CutsShort, HasBits, IsSampleFile, Opens, Reading, opening, sample_len}
use Rattle.cdma_io.proofs.Common.{sample_spelling, width_of}
use Rattle.cdma_io.proofs.Opening.{opening-spelled}
use Rattle.cdma_io.proofs.Spelling.{length-samples, next_samples, sample_len-mono}

pub opening-file : (bytes : List ℕ) (header : Header) (samples : List Sample) →
    IsSampleFile bytes header samples → opening bytes ≡ Ok header
opening-file bytes header samples file =
    ap opening file.spelled ∙
    opening-spelled header (flat_map (sample_spelling (width_of header)) samples) file.lawful

-- it opens with its header, unless a read failed
pub opens_file : (answer : Result Reading FileFault) (bytes : List ℕ) (header : Header) (samples : List Sample) →
    IsSampleFile bytes header samples → Opens answer (opening bytes) →
    MatchResult answer (λ reading. reading.header ≡ header) (λ e. e ≡ ReadFault)
opens_file (Ok reading) bytes header samples file due =
    let opened = opening-file bytes header samples file in cc
opens_file (Err ReadFault) bytes header samples file due = refl
opens_file (Err Magic) bytes header samples file due =
    let opened = opening-file bytes header samples file in let answer = due (λ e. cc) in absurd (cc)
opens_file (Err Version) bytes header samples file due =
    let opened = opening-file bytes header samples file in let answer = due (λ e. cc) in absurd (cc)
opens_file (Err Flags) bytes header samples file due =
    let opened = opening-file bytes header samples file in let answer = due (λ e. cc) in absurd (cc)
opens_file (Err Count) bytes header samples file due =
    let opened = opening-file bytes header samples file in let answer = due (λ e. cc) in absurd (cc)
opens_file (Err (Short n)) bytes header samples file due =
    let opened = opening-file bytes header samples file in let answer = due (λ e. cc) in absurd (cc)
opens_file (Err (Extra n)) bytes header samples file due =
    let opened = opening-file bytes header samples file in let answer = due (λ e. cc) in absurd (cc)
opens_file (Err (TooFew n)) bytes header samples file due =
    let opened = opening-file bytes header samples file in let answer = due (λ e. cc) in absurd (cc)

-- what a read of its samples gave, and what is left
pub read_next : (width : Width) (new : Option (List ℕ)) (samples next : List Sample) →
    All (HasBits width) samples → All (HasBits width) next → length next ≤ length samples →
    Consumes (Some (flat_map (sample_spelling width) samples)) new (flat_map (sample_spelling width) next) →
    (next ≡ take (length next) samples) × (new ≡ Some (flat_map (sample_spelling width) (drop (length next) samples)))
read_next width None samples next small small_next fits read = absurd read
read_next width (Some ys) samples next small small_next fits read =
    let found = next_samples width next samples ys small small_next fits read in
    (found.first, ap Some found.others)

-- no read of its samples is cut short, unless a read failed
pub no_short : (e : FileFault) (width : Width) (samples : List Sample) (count from : ℕ)
    (new : Option (List ℕ)) → count ≤ length samples →
    CutsShort e (sample_len width * count) from (Some (flat_map (sample_spelling width) samples)) new → e ≡ ReadFault
no_short ReadFault width samples count from new few fault = refl
no_short (Short place) width samples count from new few fault =
    absurd (omega (arith, fault.0, length-samples width samples, sample_len-mono width count (length samples) few))
no_short Magic width samples count from new few fault = absurd fault
no_short Version width samples count from new few fault = absurd fault
no_short Flags width samples count from new few fault = absurd fault
no_short Count width samples count from new few fault = absurd fault
no_short (Extra place) width samples count from new few fault = absurd fault
no_short (TooFew n) width samples count from new few fault = absurd fault
