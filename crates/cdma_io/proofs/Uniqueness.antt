-- A file's bytes fix its header and its samples.
use Rattle.cdma_io.proofs.Common.{◌≡◌, ℕ, List, Ok, sym, ap, ◌∙◌, drop, drop_at, subst, All, flat_map, Sample, Header, Width, HasBits}
use Rattle.cdma_io.proofs.Common.{IsSampleFile, header_spelling, opening, sample_spelling, width_of}
use Rattle.cdma_io.proofs.Opening.{length-header_spelling, opening-spelled}
use Rattle.cdma_io.proofs.Spelling.{flat_map-sample_spelling}

-- A file has one header and one list of samples: both headers are what `opening` reads out of its
-- bytes, so they and their widths are the same, and the bytes after the first 16 are one spelling
-- of both lists of samples, which fixes each sample.
pub file_unique : (bytes : List ℕ) (header other_header : Header)
    (samples other_samples : List Sample) → IsSampleFile bytes header samples →
    IsSampleFile bytes other_header other_samples → (header ≡ other_header) × (samples ≡ other_samples)
file_unique bytes header other_header samples other_samples file other =
    let first : opening bytes ≡ Ok header =
    ap opening file.spelled ∙
    opening-spelled header (flat_map (sample_spelling (width_of header)) samples) file.lawful in
    let second : opening bytes ≡ Ok other_header =
    ap opening other.spelled ∙
    opening-spelled other_header (flat_map (sample_spelling (width_of other_header)) other_samples) other.lawful in
    let headers : header ≡ other_header = cc in
    let width = width_of header in
    let same : width_of other_header ≡ width = ap width_of (sym headers) in
    let bodies : flat_map (sample_spelling width) samples ≡
    flat_map (sample_spelling width) other_samples =
    sym (drop_at (header_spelling header) (flat_map (sample_spelling width) samples) 16 (length-header_spelling header))
    ∙ ap (drop 16) (sym file.spelled ∙ other.spelled)
    ∙ drop_at (header_spelling other_header) (flat_map (sample_spelling (width_of other_header)) other_samples) 16
    (length-header_spelling other_header)
    ∙ ap (λ (w : Width). flat_map (sample_spelling w) other_samples) same in
    let in_range : All (HasBits width) other_samples =
    subst (λ (w : Width). All (HasBits w) other_samples) same other.in_range in
    (headers, flat_map-sample_spelling width samples other_samples file.in_range in_range bodies)
