-- The text of the pilot that is found in the first samples of a file.
use Rattle.run_replies.proofs.Common.{◌≡◌, ℕ, List, sym, ap, ◌∙◌, Sample, IsBestIn, best_phase, best_phase-only, best_energy-only, Pilot}
use Rattle.run_replies.proofs.Common.{event_line, Best, best_pilot, IsBest}

-- what a sweep over all phases found
pilot-best : (samples : List Sample) (phase energy : ℕ) →
    IsBestIn samples 0 32768 phase energy → Pilot phase energy ≡ best_pilot samples
unfolding best_pilot
pilot-best samples phase energy best =
    ap (λ (p : ℕ). Pilot p energy) (best_phase-only samples phase energy best)
    ∙ ap (λ (e : ℕ). Pilot (best_phase samples) e) (best_energy-only samples phase energy best)

-- its line
pub pilot_text : (first : List Sample) (best : Best) → IsBest first best →
    event_line (best_pilot first) ≡ event_line (Pilot best.phase best.energy)
pilot_text first best is = sym (ap event_line (pilot-best first best.phase best.energy is))
