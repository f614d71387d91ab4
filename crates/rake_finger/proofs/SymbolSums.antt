-- The sums of a symbol's samples on lanes are those of the definitions.
use Rattle.rake_finger.proofs.Common.{◌≡◌, ℕ, ◌+◌, ◌*◌, ◌/◌, ◌%◌, ◌≤◌, List, length, take, drop, sym, ap, ◌∙◌, arith, ℤ, zip_with, sum_of}
use Rattle.rake_finger.proofs.Common.{Pair, Sample, despread, turned, pilot_signs, despread_from, AreRowSigns, covered_signs, covered_from}
use Rattle.rake_finger.proofs.Common.{despread_at}
use Rattle.pilot_search.specs.BySigns.{correlation_with}
use Rattle.rake_finger.proofs.SignedLanes.{covered_all}

-- samples side by side, times the code's chips, where the code doesn't begin again
despread_run : (samples run : List Sample) (ahead : List (ℤ × ℤ)) (phase place chips first : ℕ) →
    ahead ≡ drop first pilot_signs → run ≡ take chips (drop place samples) →
    first ≡ (phase + place) % 32768 → first + length run ≤ 32768 →
    zip_with turned run ahead ≡ despread_at samples phase place chips
despread_run samples run ahead phase place chips first is run_at at room =
    let turns : phase + place ≡ first + 32768 * ((phase + place) / 32768) = omega (arith, at) in
    ap (zip_with turned run) is
    ∙ sym (despread_from run (phase + place) first ((phase + place) / 32768) turns room)
    ∙ ap (despread (phase + place)) run_at

pub plain_run : (samples run : List Sample) (ahead : List (ℤ × ℤ))
    (phase place chips first : ℕ) (sum : Pair) → sum ≡ correlation_with run ahead →
    ahead ≡ drop first pilot_signs → run ≡ take chips (drop place samples) →
    first ≡ (phase + place) % 32768 → first + length run ≤ 32768 → sum ≡ sum_of (despread_at samples phase place chips)
unfolding correlation_with
plain_run samples run ahead phase place chips first sum e is run_at at room =
    e ∙ ap sum_of (despread_run samples run ahead phase place chips first is run_at at room)

pub covered_run : (row : ℕ) (row_signs : List ℤ) (samples run : List Sample)
    (ahead : List (ℤ × ℤ)) (phase place chips first : ℕ) (sum : Pair) →
    AreRowSigns row row_signs → sum ≡ correlation_with run (covered_signs row_signs 0 ahead) →
    ahead ≡ drop first pilot_signs → run ≡ take chips (drop place samples) →
    first ≡ (phase + place) % 32768 → first + length run ≤ 32768 →
    sum ≡ sum_of (covered_from row 0 (despread_at samples phase place chips))
unfolding correlation_with
covered_run row row_signs samples run ahead phase place chips first sum all e is run_at at room =
    e
    ∙ ap sum_of (covered_all row 0 row_signs run ahead all)
    ∙ ap (λ (ps : List Pair). sum_of (covered_from row 0 ps))
    (despread_run samples run ahead phase place chips first is run_at at room)
