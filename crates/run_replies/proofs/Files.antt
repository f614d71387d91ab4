-- Lemmas on files with a fault, and on runs that end by it.
use Rattle.run_replies.proofs.Common.{◌≡◌, ◌≢◌, ℕ, ◌+◌, ◌*◌, ◌≤◌, List, length, sym, ap, ◌∙◌, subst, arith, inl, inr, length-append, None}
use Rattle.run_replies.proofs.Common.{Option, Some, IfSome, Result, Ok, Err, IfErr, IsErrAnd, flat_map, Sample, FileFault, Short, Extra}
use Rattle.run_replies.proofs.Common.{ReadFault, TooFew, Header, IsSampleFile, Reading, header_spelling, opening, sample_len, width_of, []}
use Rattle.run_replies.proofs.Common.{sample_spelling, opening-spelled, length-header_spelling, length-samples, Status, BadFile, All}
use Rattle.run_ends.proofs.Ends.{ended_by}
use Rattle.run_replies.proofs.Common.{HasBits, Width, file_status, IsFaultIn, IsLaterFault, IsRestFault, IsSearchable, ended}

-- ---- what the bytes of a good file tell

opens : (bytes : List ℕ) (span : ℕ) (s : IsSearchable bytes span) → opening bytes ≡ Ok s.header
opens bytes span s =
    ap opening s.file.spelled ∙
    opening-spelled s.header (flat_map (sample_spelling (width_of s.header)) s.samples)
    s.file.lawful

same_header : (bytes : List ℕ) (span : ℕ) (s : IsSearchable bytes span) (header : Header) →
    opening bytes ≡ Ok header → s.header ≡ header
same_header bytes span s header is = let e = opens bytes span s in cc

length-file : (bytes : List ℕ) (header : Header) (samples : List Sample) → IsSampleFile bytes header samples →
    length bytes ≡ 16 + sample_len (width_of header) * header.count
length-file bytes header samples file =
    let width = width_of header in
    let all : sample_len width * length samples ≡ sample_len width * header.count =
    ap (λ (n : ℕ). sample_len width * n) file.counted in
    omega (
      arith,
      ap length file.spelled,
      length-append (header_spelling header) (flat_map (sample_spelling width) samples),
      length-header_spelling header,
      length-samples width samples,
      all,
    )

-- they have the length that the header tells with which they open
length-searchable : (bytes : List ℕ) (span : ℕ) (s : IsSearchable bytes span) (header : Header) →
    opening bytes ≡ Ok header → length bytes ≡ 16 + sample_len (width_of header) * header.count
length-searchable bytes span s header is =
    subst (λ (h : Header). length bytes ≡ 16 + sample_len (width_of h) * h.count)
    (same_header bytes span s header is) (length-file bytes s.header s.samples s.file)

-- ---- bytes with a fault

no_later_fault : (span : ℕ) (header : Header) (len : ℕ) (e : FileFault) →
    IsLaterFault span header len e → span ≤ header.count → ¬ (len ≡ 16 + sample_len (width_of header) * header.count)
no_later_fault span header len (TooFew count) fault enough long = omega (arith, fault.0, fault.1, enough)
no_later_fault span header len (Short place) fault enough long = omega (arith, fault.2, long)
no_later_fault span header len (Extra place) fault enough long = omega (arith, fault.1, fault.2, long)
no_later_fault span header len e fault enough long = fault

pub no_fault : (bytes : List ℕ) (span : ℕ) (e : FileFault) (s : IsSearchable bytes span) → ¬ (IsFaultIn span bytes e)
no_fault bytes span e s (inl refused) = let is = opens bytes span s in absurd (cc)
no_fault bytes span e s (inr (header, opened, later)) =
    let same : s.header.count ≡ header.count = ap (λ (h : Header). h.count) (same_header bytes span s header opened) in
    no_later_fault span header (length bytes) e later (omega (arith, same, s.enough, s.file.counted))
    (length-searchable bytes span s header opened)

-- a header has one later fault
one_later_fault : (span : ℕ) (header : Header) (len : ℕ) (one other : FileFault) →
    IsLaterFault span header len one → IsLaterFault span header len other → one ≡ other
one_later_fault span header len (TooFew n) (TooFew k) a b = ap TooFew (a.0 ∙ sym b.0)
one_later_fault span header len (TooFew n) (Short place) a b = absurd (omega (arith, a.0, a.1, b.0))
one_later_fault span header len (TooFew n) (Extra place) a b = absurd (omega (arith, a.0, a.1, b.0))
one_later_fault span header len (Short place) (TooFew n) a b = absurd (omega (arith, b.0, b.1, a.0))
one_later_fault span header len (Short place) (Short also) a b = ap Short (a.1 ∙ sym b.1)
one_later_fault span header len (Short place) (Extra also) a b = absurd (omega (arith, a.2, b.1, b.2))
one_later_fault span header len (Extra place) (TooFew n) a b = absurd (omega (arith, b.0, b.1, a.0))
one_later_fault span header len (Extra place) (Short also) a b = absurd (omega (arith, b.2, a.1, a.2))
one_later_fault span header len (Extra place) (Extra also) a b = ap Extra (a.1 ∙ sym b.1)
one_later_fault span header len (TooFew n) other a b = absurd b
one_later_fault span header len (Short place) other a b = absurd b
one_later_fault span header len (Extra place) other a b = absurd b
one_later_fault span header len one other a b = absurd a

-- so do bytes
pub one_fault : (span : ℕ) (bytes : List ℕ) (one other : FileFault) →
    IsFaultIn span bytes one → IsFaultIn span bytes other → one ≡ other
one_fault span bytes one other (inl a) (inl b) =
    let same : Err one ≡ Err other = sym a ∙ b in cc
one_fault span bytes one other (inl a) (inr (header, opened, later)) =
    let never : Err one ≡ Ok header = sym a ∙ opened in absurd (cc)
one_fault span bytes one other (inr (header, opened, later)) (inl b) =
    let never : Err other ≡ Ok header = sym b ∙ opened in absurd (cc)
one_fault span bytes one other (inr (header, opened, later)) (inr (also, open_too, last)) =
    let alike : Ok header ≡ Ok also = sym opened ∙ open_too in
    let same : header ≡ also = cc in
    one_later_fault span also (length bytes) one other
    (subst (λ (h : Header). IsLaterFault span h (length bytes) one) same later) last

-- they are not a file of that many samples
pub unsearchable : (rest : Option (List ℕ)) (span : ℕ) (e : FileFault) → IfSome rest (λ bytes. IsFaultIn span bytes e) →
    IfSome rest (λ bytes. ¬ (IsSearchable bytes span))
unsearchable None span e fault = tt
unsearchable (Some bytes) span e fault = λ (s : IsSearchable bytes span). no_fault bytes span e s fault

pub no_file : {T : Type 0} (r : Result T FileFault) (rest : Option (List ℕ)) (span : ℕ) →
    IfErr r (λ e. e ≢ ReadFault → IfSome rest (λ bytes. IsFaultIn span bytes e)) →
    IfErr r (λ e. e ≢ ReadFault → IfSome rest (λ bytes. ¬ (IsSearchable bytes span)))
no_file (Ok x) rest span fault = tt
no_file (Err e) rest span fault = λ (other : e ≢ ReadFault). unsearchable rest span e (fault other)

-- what a reader has left hasn't the length that is wanted
pub wrong_length : (rest : Option (List ℕ)) (reading : Reading) (e : FileFault) →
    IfSome rest (λ bytes. IsRestFault reading (length bytes) e) →
    IfSome rest (λ bytes. length bytes ≢ sample_len (width_of reading.header) * reading.left)
wrong_length None reading e fault = tt
wrong_length (Some bytes) reading (Short place) fault =
    λ (same : length bytes ≡ sample_len (width_of reading.header) * reading.left).
    omega (arith, same, fault.1)
wrong_length (Some bytes) reading (Extra place) fault =
    λ (same : length bytes ≡ sample_len (width_of reading.header) * reading.left).
    omega (arith, same, fault.1)
wrong_length (Some bytes) reading e fault = absurd fault

-- a status that blames the file's bytes comes from a fault in them
bad_file_is : (e fault : FileFault) → file_status e ≡ BadFile fault → (e ≡ fault) × (fault ≢ ReadFault)
bad_file_is ReadFault fault h = absurd (cc)
bad_file_is e fault h = (cc, λ (r : fault ≡ ReadFault). cc)

-- ---- how a run ends by a fault

-- where it blames the file's bytes, it is a fault in them
pub blamed : {T : Type 0} (r : Result T Status) (e fault : FileFault) →
    IsErrAnd r (λ (s : Status). s ≡ file_status e) → ended r ≡ BadFile fault →
    (e ≡ fault) × (fault ≢ ReadFault) × (e ≢ ReadFault)
blamed r e fault handed is =
    let same = bad_file_is e fault (sym (ended_by r (file_status e) handed) ∙ is) in
    (same.0, same.1, subst (λ (f : FileFault). f ≢ ReadFault) (sym same.0) same.1)

-- no samples are within any width
pub none_within : (width : Width) → All (HasBits width) []
none_within width = λ k d h. absurd (omega (arith, h))
