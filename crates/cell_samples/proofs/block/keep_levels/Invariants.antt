use Rattle.cell_samples.proofs.Common.{◌≡◌, length, map, true, AreFirstLevels, IsLevel, carrier_of}
use Rattle.std.specs.List.{All}
use Rattle.cell_samples.proofs.block.keep_levels.Given as goal

abbrev pub invariant-loop-n : goal.invariant-loop-n
invariant-loop-n l = record {
  same : l.channels ≡ l.fn.channels;
  long : length l.levels ≡ 128;
  value : AreFirstLevels l.first (map carrier_of l.fn.channels) l.n l.levels;
  small : All IsLevel l.levels;
  kept : l.is_same ≡ true → l.levels ≡ l.fn.levels;
}
