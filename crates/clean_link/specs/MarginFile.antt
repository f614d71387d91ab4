-- The worked file with noise meets the premises of the laws of bounded noise, and its margin is
-- exact.
use Rattle.clean_link.specs.Common.{IsReceivable, Sample, Sixteen, made_samples, some_message}
use Rattle.clean_link.specs.Common.{sync_symbols, Bears, IsNear, HaveSigns}
use Rattle.std.specs.Prelude.{◌≡◌, ◌≤◌, ◌↔◌, ℕ, List, Some}
use Rattle.cell_plan.specs.Transmitter.{header_of}
use Rattle.clean_link.specs.CleanLaws.{HearsSentSync}
use Rattle.clean_link.specs.NoisyFile.{cell, cell_beside, file, first_softs, sync_with}
use Rattle.clean_signal.specs.NearFiles.{IsNearFile}

pub record MeetsNoisePremises : Type 0 where
  -- For one finger and any span of at least sixteen samples, it is a file of the cell with noise of
  -- 89, and the sync channel bears that noise.
  pub near : (span : ℕ) → 16 ≤ span → span ≤ 737280 →
      IsNearFile 89 Sixteen cell span 1 (header_of Sixteen cell) file
  pub hears : HearsSentSync Sixteen cell (sync_with 90) 89 file
  -- The sync channel bears noise of a size if, and only if, the soft values of its first frame have
  -- the signs of the sent symbols in every file with noise of that size.
  pub exact : (e : ℕ) → Bears cell 90 e ↔
      ((samples : List Sample) → IsNear e samples (made_samples cell) →
      HaveSigns (sync_symbols cell.cell (some_message 1) 0) (first_softs samples))
  -- The file is what the cell would send with a sync channel of gain 1.
  pub sent : file ≡ made_samples (cell_beside (Some (sync_with 1)))
  pub sender : IsReceivable Sixteen (cell_beside (Some (sync_with 1)))
