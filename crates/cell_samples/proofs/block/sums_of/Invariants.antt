use Rattle.cell_samples.proofs.Common.{◌≡◌, ◌*◌, ◌%◌, ◌^◌, ℕ, length, map, IsWithin, AreLevels, carrier_of}
use Rattle.std.specs.List.{All}
use Rattle.cell_samples.proofs.Blocks.{IsSummed}
use Rattle.cell_samples.proofs.block.sums_of.Given as goal

abbrev pub invariant-loop-n : goal.invariant-loop-n
invariant-loop-n l = record {
  long : length l.sums ≡ 64;
  small : All (IsWithin (2 ^ 31 * l.n)) l.sums;
  summed : (first : ℕ) → first % 64 ≡ 0 → AreLevels first (map carrier_of l.channels) l.levels →
      IsSummed first l.factor (map carrier_of l.channels) l.n l.sums;
}
