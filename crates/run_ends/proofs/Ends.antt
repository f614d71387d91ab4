-- Lemmas on the status of a result.
use Rattle.std.proofs.Common.{◌≡◌, Result, Ok, Err}
use Rattle.std.specs.Prelude.{IsErrAnd}
use Rattle.run_ends.specs.Status.{ended}
use Rattle.run_ends.specs.declared.status.Status.{Status}

-- an error that was passed on with this status ends the run so
pub ended_by : {T : Type 0} (r : Result T Status) (status : Status) →
    IsErrAnd r (λ (s : Status). s ≡ status) → ended r ≡ status
ended_by (Ok x) status passed = absurd passed
ended_by (Err s) status passed = passed
