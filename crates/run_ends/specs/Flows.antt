-- A source or a sink, before a run and after it.
use Rattle.std.specs.Prelude.{◌≡◌, ℕ, List, Option}

-- The bytes before and after the run, if they are known, the counts of faults, and a type that
-- states that the source or sink is unchanged.
pub record Flow : Type 1 where
  pub before : Option (List ℕ)
  pub after : Option (List ℕ)
  pub faults : ℕ
  pub faults_after : ℕ
  pub Same : Type 0

abbrev pub flow : Option (List ℕ) → Option (List ℕ) → ℕ → ℕ → Type 0 → Flow
flow before after faults faults_after Same = record {
  before = before;
  after = after;
  faults = faults;
  faults_after = faults_after;
  Same = Same;
}

-- the flow of a source or a sink with these functions for its bytes and its count of faults
abbrev pub flow_of : {S : Type 0} → (S → Option (List ℕ)) → (S → ℕ) → S → S → Flow
flow_of bytes faults old new = flow (bytes old) (bytes new) (faults old) (faults new) (new ≡ old)
