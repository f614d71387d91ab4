-- Lemmas on the one fault that a bad file has, and its place.
use Rattle.run_replies.proofs.Common.{◌≡◌, ◌≢◌, ℕ, ◌+◌, ◌-◌, ◌*◌, ◌≤◌, ◌++◌, min, List, length, refl, ap, subst, arith, inl, inr, Option}
use Rattle.run_replies.proofs.Common.{length-append, None, Some, IfSome, Ok, Err, flat_map, Consumes, Sample, FileFault, Short, Extra, ◌∙◌}
use Rattle.run_replies.proofs.Common.{ReadFault, TooFew, Header, Opens, Reading, header_spelling, opening, sample_len, sample_spelling}
use Rattle.run_replies.proofs.Common.{width_of, opening-spelled, length-header_spelling, length-samples, sample_len-mono, append_assoc}
use Rattle.run_replies.proofs.Common.{IsFaultIn, IsRestFault, PassesSamples, ◌<◌, CutsShort, IsLawfulHeader, RunsOn, next_place}

-- opening the file answers it
pub fault_of_opening : (rest : Option (List ℕ)) (span : ℕ) (e : FileFault) →
    IfSome rest (λ bytes. Opens (Err e) (opening bytes)) → e ≢ ReadFault → IfSome rest (λ bytes. IsFaultIn span bytes e)
fault_of_opening None span e told other = tt
fault_of_opening (Some bytes) span e told other = inl (told other)

-- the header counts too few samples
pub fault_of_count : (rest : Option (List ℕ)) (span count : ℕ) (reading : Reading) →
    IfSome rest (λ bytes. Opens (Ok reading) (opening bytes)) → count ≡ reading.header.count → count < span →
    IfSome rest (λ bytes. IsFaultIn span bytes (TooFew count))
fault_of_count None span count reading told is few = tt
fault_of_count (Some bytes) span count reading told is few = inr (reading.header, told, (is, few))

-- the first samples are cut short
pub fault_of_span : (e : FileFault) (old mid new : Option (List ℕ)) (span : ℕ) (reading : Reading) →
    IfSome old (λ bytes. Opens (Ok reading) (opening bytes)) →
    Consumes old mid (header_spelling reading.header) → reading.left ≡ reading.header.count →
    span ≤ reading.header.count →
    CutsShort e (sample_len (width_of reading.header) * min span reading.left) (next_place reading)
    mid new → e ≢ ReadFault → IfSome old (λ bytes. IsFaultIn span bytes e)
fault_of_span e None mid new span reading told consumed all enough cut other = tt
fault_of_span e (Some bytes) None new span reading told consumed all enough cut other = absurd consumed
fault_of_span (Short place) (Some bytes) (Some rest) new span reading told consumed all enough cut
    other =
    let l = sample_len (width_of reading.header) in
    let count = reading.header.count in
    let none : l * (count - reading.left) ≡ l * 0 =
    ap (λ (n : ℕ). l * n) (let e : count - reading.left ≡ 0 = omega (arith, all) in e) in
    let long : length bytes ≡ 16 + length rest =
    omega (
      arith,
      ap length consumed,
      length-append (header_spelling reading.header) rest,
      length-header_spelling reading.header,
    ) in
    let within : min span reading.left ≤ count = omega (arith, all) in
    inr (
      reading.header,
      told,
      (
        enough,
        omega (arith, cut.1, none, long),
        omega (arith, cut.0, long, sample_len-mono (width_of reading.header) (min span reading.left) count within),
      ),
    )
fault_of_span ReadFault (Some bytes) (Some rest) new span reading told consumed all enough cut
    other = absurd (other refl)
fault_of_span e (Some bytes) (Some rest) new span reading told consumed all enough cut other = absurd cut

-- what is left is cut short, after some of it was read
pub rest_cut_fault : (e : FileFault) (begun now : Reading) (old mid new : Option (List ℕ))
    (room : ℕ) → now.header ≡ begun.header →
    PassesSamples (width_of begun.header) (begun.left - now.left) old mid → now.left ≤ begun.left →
    begun.left ≤ begun.header.count →
    CutsShort e (sample_len (width_of now.header) * min room now.left) (next_place now) mid new → e ≢ ReadFault →
    IfSome old (λ bytes. IsRestFault begun (length bytes) e)
rest_cut_fault e begun now None mid new room same p low counted cut other = tt
rest_cut_fault e begun now (Some bytes) None new room same p low counted cut other = absurd p.consumed
rest_cut_fault (Short place) begun now (Some bytes) (Some rest) new room same p low counted cut
    other =
    let width = width_of begun.header in
    let l = sample_len width in
    let passed = length p.samples in
    let few : length rest < l * min room now.left =
    subst (λ (h : Header). length rest < sample_len (width_of h) * min room now.left) same cut.0
    in
    let here : place ≡ 16 + l * (begun.header.count - now.left) + length rest =
    subst (λ (h : Header). place ≡
    16 + sample_len (width_of h) * (h.count - now.left) + length rest) same cut.1 in
    let parted : begun.header.count - now.left ≡ (begun.header.count - begun.left) + passed =
    omega (arith, low, counted, p.counted) in
    let place_parted : l * (begun.header.count - now.left) ≡
    l * ((begun.header.count - begun.left) + passed) = ap (λ (n : ℕ). l * n) parted in
    let long : length bytes ≡ l * passed + length rest =
    omega (
      arith,
      ap length p.consumed,
      length-append (flat_map (sample_spelling width) p.samples) rest,
      length-samples width p.samples,
    ) in
    let within : passed + min room now.left ≤ begun.left = omega (arith, p.counted, low) in (
      omega (arith, here, place_parted, long),
      omega (arith, few, long, sample_len-mono width (passed + min room now.left) begun.left within),
    )
rest_cut_fault ReadFault begun now (Some bytes) (Some rest) new room same p low counted cut other = absurd (other refl)
rest_cut_fault e begun now (Some bytes) (Some rest) new room same p low counted cut other = absurd cut

-- a byte comes after what is left
pub rest_extra_fault : (e : FileFault) (begun now : Reading) (old mid : Option (List ℕ)) → now.header ≡ begun.header →
    PassesSamples (width_of begun.header) (begun.left - now.left) old mid → now.left ≤ 0 →
    RunsOn e (16 + sample_len (width_of now.header) * now.header.count) mid → e ≢ ReadFault →
    IfSome old (λ bytes. IsRestFault begun (length bytes) e)
rest_extra_fault e begun now None mid same p done runs other = tt
rest_extra_fault e begun now (Some bytes) None same p done runs other = absurd p.consumed
rest_extra_fault (Extra place) begun now (Some bytes) (Some rest) same p done runs other =
    let width = width_of begun.header in
    let l = sample_len width in
    let here : place ≡ 16 + l * begun.header.count =
    subst (λ (h : Header). place ≡ 16 + sample_len (width_of h) * h.count) same runs.1 in
    let all : l * length p.samples ≡ l * begun.left =
    ap (λ (n : ℕ). l * n)
    (let e : length p.samples ≡ begun.left = omega (arith, p.counted, done) in e) in (
      here,
      omega (
        arith,
        runs.0,
        all,
        ap length p.consumed,
        length-append (flat_map (sample_spelling width) p.samples) rest,
        length-samples width p.samples,
      ),
    )
rest_extra_fault ReadFault begun now (Some bytes) (Some rest) same p done runs other = absurd (other refl)
rest_extra_fault e begun now (Some bytes) (Some rest) same p done runs other = absurd runs

-- the lengths of a file of which the header and some samples were read
record Totals (bytes rest : List ℕ) (reading : Reading) (samples : List Sample) : Type 0 where
  opened : opening bytes ≡ Ok reading.header
  enough : length samples ≤ reading.header.count
  long : length bytes ≡ 16 + sample_len (width_of reading.header) * length samples + length rest
  begun : sample_len (width_of reading.header) * (reading.header.count - reading.left) ≡
      sample_len (width_of reading.header) * length samples
  whole : sample_len (width_of reading.header) * reading.left + sample_len (width_of reading.header) * length samples ≡
      sample_len (width_of reading.header) * reading.header.count

-- The lengths that place a fault follow from the bytes that were read: 16 are the header's, each
-- sample has as many as the width says, and the rest comes after them. The samples that were read
-- and those that are left are together the ones that the header counts.
totals : (bytes rest : List ℕ) (reading : Reading) (samples : List Sample) →
    IsLawfulHeader reading.header → reading.left + length samples ≡ reading.header.count →
    bytes ≡ (header_spelling reading.header ++ flat_map (sample_spelling (width_of reading.header))
    samples) ++ rest → Totals bytes rest reading samples
totals bytes rest reading samples lawful counted consumed =
    let width = width_of reading.header in
    let l = sample_len width in
    let front = header_spelling reading.header in
    let first = flat_map (sample_spelling width) samples in
    let whole : l * (reading.left + length samples) ≡ l * reading.header.count = ap (λ (n : ℕ). l * n) counted in
    let passed : reading.header.count - reading.left ≡ length samples = omega (arith, counted) in
    record {
      opened = ap opening (consumed ∙ append_assoc front first rest) ∙
          opening-spelled reading.header (first ++ rest) lawful;
      enough = omega (arith, counted);
      long = omega (
        arith,
        ap length consumed,
        length-append (front ++ first) rest,
        length-append front first,
        length-header_spelling reading.header,
        length-samples width samples,
      );
      begun = ap (λ (n : ℕ). l * n) passed;
      whole = omega (arith, whole);
    }

-- a fault of what is left is one of the file
pub fault_of_rest : (e : FileFault) (old mid : Option (List ℕ)) (reading : Reading)
    (samples : List Sample) → IsLawfulHeader reading.header → reading.left + length samples ≡ reading.header.count →
    Consumes old mid
    (header_spelling reading.header ++ flat_map (sample_spelling (width_of reading.header))
    samples) →
    IfSome mid (λ bytes. IsRestFault reading (length bytes) e) →
    IfSome old (λ bytes. IsFaultIn (length samples) bytes e)
fault_of_rest e None mid reading samples lawful counted consumed fault = tt
fault_of_rest e (Some bytes) None reading samples lawful counted consumed fault = absurd consumed
fault_of_rest (Short place) (Some bytes) (Some rest) reading samples lawful counted consumed fault =
    let t = totals bytes rest reading samples lawful counted consumed in
    inr (
      reading.header,
      t.opened,
      (t.enough, omega (arith, fault.0, t.long, t.begun), omega (arith, fault.1, t.long, t.whole)),
    )
fault_of_rest (Extra place) (Some bytes) (Some rest) reading samples lawful counted consumed fault =
    let t = totals bytes rest reading samples lawful counted consumed in
    inr (reading.header, t.opened, (t.enough, fault.0, omega (arith, fault.0, fault.1, t.long, t.whole)))
fault_of_rest e (Some bytes) (Some rest) reading samples lawful counted consumed fault = absurd fault
