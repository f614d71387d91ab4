-- The handset that hears a file is tuned by it, and lies on the path of the cell that it holds.
use Rattle.run_replies.proofs.Common.{◌≡◌, ℕ, List, [], ◌∷◌, length, pos, take, refl, sym, ap, ◌∙◌, Sample, Width, Header, CellPlan}
use Rattle.run_replies.proofs.Common.{near_deltas, best_phase, energy, best_phase-is, one_delta, made_samples, IsNearFile, length-made}
use Rattle.run_replies.proofs.Common.{HandsetsAreTuned, HandsetsLieOnThePath, length-near}

pub handsets_tuned : HandsetsAreTuned
handsets_tuned span header samples fingers paging traffic = (refl, refl, refl, refl, refl)

-- a file that is near to what a cell sends has as many samples
pub near_long : (e : ℕ) (width : Width) (plan : CellPlan) (span fingers : ℕ) (header : Header)
    (samples : List Sample) → IsNearFile e width plan span fingers header samples → length samples ≡ plan.link.samples
near_long e width plan span fingers header samples file =
    length-near e samples (made_samples plan) file.near ∙ length-made plan

-- one finger is on the best phase
pub own_delta : (samples : List Sample) → near_deltas samples (best_phase samples) 1 ≡ pos 0 ∷ []
own_delta samples =
    one_delta samples (best_phase samples) (energy samples (best_phase samples)) (best_phase-is samples)

-- so the handset lies on the cell's path
pub on_plans_path : HandsetsLieOnThePath
on_plans_path e width plan span fingers paging traffic header samples file counted =
    let first = take span samples in
    record {
      count = sym counted ∙ near_long e width plan span fingers header samples file;
      checks_of_30 = file.checks_of_30;
      checks_of_16 = file.checks_of_16;
      phase = file.found;
      alone = ap (near_deltas first (best_phase first)) file.alone ∙ own_delta first;
    }
